mod Steps
mod Spelling
mod Clean
mod TreesRead
mod Slashes
mod Running
