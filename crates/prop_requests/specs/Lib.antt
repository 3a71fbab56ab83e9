pub mod Multistatus
pub mod Sights
pub mod Spots
pub mod Propfinds
pub mod Entered
pub mod Levels
