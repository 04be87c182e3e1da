pub mod Places
pub mod Recorded
pub mod Copies
