pub mod ChoreLemmas
pub mod EndLemmas
pub mod FaultLemmas
pub mod GateLemmas
pub mod LeftOutLemmas
pub mod LineLemmas
pub mod PlayLemmas
pub mod RunLemmas
