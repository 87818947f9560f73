pub mod Steps
pub mod Runs
pub mod Units
pub mod LawProofs
pub mod Deadlines
pub mod Shares
