pub mod Earliest
pub mod Node
pub mod Tree
