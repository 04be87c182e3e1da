pub mod Verdicts
pub mod Laws
pub mod Places
pub mod Collecting
pub mod Collector
pub mod Taking
pub mod Flights
pub mod Booking
