-- What a legal transcript says, from its opening to its end.
pub mod Openings
pub mod Reached
pub mod Pasts
pub mod Sizes
pub mod Endings
pub mod Headlines
pub mod Runs
pub mod PickedStates
pub mod PickedSteps
pub mod Alone
