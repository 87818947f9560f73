pub mod Canvases
pub mod Job
pub mod Halved
pub mod JobInside
pub mod Refused
pub mod Lease
pub mod LeaseInside
