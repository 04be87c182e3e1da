pub mod Bounds
pub mod Changes
pub mod Settling
pub mod Examples
pub mod Everywhere
pub mod Turning
