pub mod Components
pub mod Ends
pub mod Escapes
pub mod Roots
pub mod Rows
pub mod Stubs
pub mod WrittenRead
