pub mod Closings
pub mod Points
pub mod Serves
pub mod Steps
pub mod Laws
pub mod Stations
pub mod Visits
pub mod SideBySide
