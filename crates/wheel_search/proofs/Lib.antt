pub mod WaitLemmas
pub mod LettingLemmas
pub mod RuleLemmas
pub mod ListLemmas
pub mod RowLemmas
pub mod ChainLemmas
pub mod GraphLemmas
pub mod RimLemmas
