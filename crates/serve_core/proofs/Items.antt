-- Lists, and what is found at a place.
pub mod Lists
pub mod Options
pub mod Picks
pub mod Sums
