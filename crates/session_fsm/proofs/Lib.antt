mod Rows
mod Runs
mod Seconds
