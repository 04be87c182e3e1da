pub mod Fields
pub mod Views
pub mod Following
pub mod Handling
pub mod Recorded
pub mod ToAll
pub mod Calling
pub mod Shown
