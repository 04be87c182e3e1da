pub mod Lists
pub mod Parts
pub mod Copies
pub mod Boards
