pub mod Sayings
pub mod Drafts
pub mod Histories
pub mod SideOf
pub mod Freshness
pub mod Layout
pub mod Acting
