pub mod Rows
pub mod RepositoryCut
pub mod Front
pub mod LabelMap
pub mod Reach
pub mod Graphs
pub mod NameSets
pub mod Falling
