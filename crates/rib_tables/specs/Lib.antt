pub mod Words
pub mod Tables
pub mod Least
pub mod Choices
pub mod Promises
pub mod Places
pub mod Owners
pub mod Rows
