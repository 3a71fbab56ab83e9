pub mod LockStates
pub mod Kept
