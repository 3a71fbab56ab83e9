pub mod Methods
pub mod Tables
pub mod Replies
pub mod Laws
pub mod Refusals
pub mod Faults
