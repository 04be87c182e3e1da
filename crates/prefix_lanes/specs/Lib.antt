pub mod Best
pub mod Bits
pub mod Columns
pub mod Covering
pub mod Laws
