pub mod Calm
pub mod Resting
pub mod Counted
pub mod Rounds
pub mod Obeyed
pub mod Examples
