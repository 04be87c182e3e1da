pub mod Laws
pub mod Noting
pub mod Tracing
pub mod Tracings
