pub mod Board
pub mod Line
pub mod Terminal
pub mod Trace
