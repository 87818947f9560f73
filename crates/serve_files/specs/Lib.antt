pub mod ReadAhead
pub mod Inlets
pub mod Outlets
pub mod Relays
pub mod Carriers
pub mod Lookers
pub mod Calls
