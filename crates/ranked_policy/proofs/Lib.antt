pub mod Loops
pub mod Longest
pub mod OrderLoops
pub mod Rising
pub mod Judged
pub mod PlanLemmas
pub mod TableLemmas
pub mod Reached
pub mod WaysOn
pub mod TestLemmas
pub mod PlaceLemmas
mod WayLemmas
mod PeerLemmas
pub mod OneTable
pub mod ChoiceLemmas
