pub mod Access
pub mod Everywhere
pub mod Policies
pub mod Order
pub mod Weights
