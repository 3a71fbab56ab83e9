pub mod Escaped
pub mod Targets
pub mod Written
pub mod Reading
