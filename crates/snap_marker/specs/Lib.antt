pub mod Recordings
pub mod Parts
