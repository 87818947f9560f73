pub mod Lists
pub mod Frames
pub mod Writing
pub mod Done
pub mod Jobs
pub mod Images
pub mod Spent
