pub mod Stable
pub mod Judging
pub mod Promises
pub mod ByRank
pub mod Examples
pub mod Rising
