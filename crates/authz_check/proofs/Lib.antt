mod AccessRows
mod AccessWalk
mod Bools
mod Ordered
mod SectionsBelow
mod Speaking
mod Under
mod Weighed
