pub mod Closes
pub mod Entries
pub mod Lower
pub mod Moving
pub mod Doing
pub mod Rows
pub mod Handling
pub mod Signing
pub mod Octets
pub mod Stepping
pub mod Resetting
pub mod Events
mod Widths
pub mod Running
pub mod Streams
mod Held
pub mod Passing
pub mod Goodness
pub mod Saying
pub mod Keeping
pub mod Leaving
pub mod Losing
pub mod Acts
mod Quieting
mod Hanging
mod Using
mod Going
mod Turning
pub mod Words
pub mod Stability
mod Hearing
pub mod Markers
pub mod Believing
mod Locally
mod SessionSteps
mod Marking
mod Parting
mod Beginning
mod Alike
mod MarkerSteps
mod Lifting
mod TableSteps
pub mod NextEvent
pub mod Lengthening
mod Mirroring
mod LocalSteps
