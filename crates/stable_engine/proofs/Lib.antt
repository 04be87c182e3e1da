pub mod StableLemmas
pub mod AlikeRules
pub mod AlikeLemmas
