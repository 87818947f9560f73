-- What one event makes of a state, and that it stays sound.
pub mod Steps
pub mod Newcomers
pub mod Summary
pub mod Readiness
pub mod Streams
pub mod Changes
pub mod Turns
pub mod Soundness
pub mod Kept
pub mod Leased
pub mod Releases
