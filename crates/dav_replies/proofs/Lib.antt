mod Rows
mod Wanting
