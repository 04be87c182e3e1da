pub mod ListLemmas
pub mod RisingLemmas
pub mod ChoiceLemmas
pub mod TableLemmas
mod RankLemmas
