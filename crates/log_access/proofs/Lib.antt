pub mod ShownNodes
