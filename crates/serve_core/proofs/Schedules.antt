-- What a schedule keeps, and what a change of one stream makes of it.
pub mod Jobs
pub mod Shown
pub mod Holdings
pub mod Handing
pub mod Lifts
pub mod Opened
pub mod Retiring
