pub mod Orders
pub mod Winners
pub mod Leaves
pub mod Roots
