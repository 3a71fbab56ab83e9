pub mod Faults
pub mod Elements
pub mod Sayings
pub mod Propfinds
pub mod Bodies
