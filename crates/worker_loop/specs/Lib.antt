pub mod Acts
pub mod Following
pub mod Whole
pub mod Ending
pub mod Script
pub mod Laws
