pub mod Acting
pub mod Ending
pub mod Trying
pub mod Chaining
pub mod Scripts
pub mod Doing
pub mod Called
pub mod Passing
