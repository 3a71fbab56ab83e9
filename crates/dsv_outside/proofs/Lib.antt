pub mod Causes
pub mod Clocks
mod Rows
