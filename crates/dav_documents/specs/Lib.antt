pub mod Plain
pub mod Written
pub mod Drafts
pub mod Namespaces
