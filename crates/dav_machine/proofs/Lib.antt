mod Getting
mod Asking
mod Listed
mod Fields
pub mod Talking
pub mod Turning
mod Acting
mod Refused
mod Agents
mod HiddenPaths
