pub mod Merged
pub mod Listed
pub mod Settled
