pub mod SafeLemmas
pub mod AlikeLemmas
