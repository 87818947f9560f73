-- What the calls of a machine and of a desk make of what they keep.
pub mod Machines
pub mod Desks
pub mod Offers
pub mod Lendings
pub mod Settlements
pub mod Rows
pub mod Sooner
pub mod Tallies
pub mod TallyStreams
