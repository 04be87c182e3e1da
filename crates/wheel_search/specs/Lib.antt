pub mod Waits
pub mod Letting
pub mod Lists
pub mod Rows
pub mod Chains
pub mod Found
pub mod Rims
