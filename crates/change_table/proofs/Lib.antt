pub mod Uppers
pub mod Ancestors
pub mod Noting
pub mod OnePass
pub mod KeyedRows
