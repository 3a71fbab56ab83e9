mod Pieces
mod Rows
mod Unneeded
