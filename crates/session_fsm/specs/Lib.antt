pub mod Table
pub mod Timers
pub mod Runs
pub mod Laws
