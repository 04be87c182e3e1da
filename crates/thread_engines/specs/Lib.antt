pub mod Gates
pub mod Laws
pub mod Recording
pub mod Records
pub mod Running
