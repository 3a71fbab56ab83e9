pub mod References
pub mod Heads
pub mod LineEnds
pub mod Asides
pub mod Modes
pub mod Runs
pub mod Documents
pub mod WrittenTrees
