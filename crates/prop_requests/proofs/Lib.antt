pub mod Rows
pub mod Showing
pub mod Entering
