pub mod Reporting
pub mod Playing
pub mod Cutting
pub mod Laws
