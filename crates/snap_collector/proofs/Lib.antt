pub mod Holding
pub mod Faults
pub mod Deciding
pub mod Books
pub mod Booked
pub mod Routers
pub mod Decided
pub mod FirstParts
pub mod NoFlights
pub mod Sole
mod Apart
