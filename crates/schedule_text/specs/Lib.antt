pub mod Schedules
pub mod Keywords
pub mod Sayings
pub mod Events
pub mod Reports
pub mod Routes
pub mod Obeying
