pub mod Gives
pub mod Paths
pub mod Escapes
pub mod Names
pub mod Lines
pub mod TextFiles
pub mod Numbers
pub mod Holding
