pub mod AdapterStates
pub mod Doorways
