pub mod Height
pub mod Bands
pub mod Canvas
pub mod Band
pub mod Lending
pub mod Written
pub mod Halves
pub mod HalvesInside
