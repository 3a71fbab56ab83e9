pub mod Steps
pub mod Uuids
pub mod Items
pub mod Scripts
pub mod Written
pub mod Reading
pub mod Aloud
