pub mod Explaining
pub mod Laws
