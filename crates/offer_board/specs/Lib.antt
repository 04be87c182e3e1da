pub mod Boards
pub mod Same
