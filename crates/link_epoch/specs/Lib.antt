pub mod Ends
pub mod Histories
