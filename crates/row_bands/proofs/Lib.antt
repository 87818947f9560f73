pub mod BandHeights
pub mod Parts
pub mod Bands
pub mod SameBand
pub mod Written
pub mod PartRows
pub mod Filled
