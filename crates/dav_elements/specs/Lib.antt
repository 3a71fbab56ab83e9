pub mod Takes
pub mod Names
pub mod Layers
pub mod Bindings
pub mod Opening
pub mod Growing
