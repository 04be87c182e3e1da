pub mod Decoding
pub mod Engine
pub mod Inputs
pub mod Checking
pub mod Digits
pub mod Hearing
pub mod Laws
