pub mod Dates
pub mod Counting
pub mod Laws
