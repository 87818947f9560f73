pub mod Items
pub mod Bands
pub mod Events
pub mod Transcripts
pub mod Charges
pub mod Rules
pub mod Schedules
pub mod Calls
