pub mod ChangeTables
pub mod Rows
