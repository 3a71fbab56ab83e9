pub mod Doorways
