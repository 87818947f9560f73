pub mod Asking
pub mod Found
pub mod Commands
pub mod Subcommands
pub mod PlainWords
pub mod FoundWords
pub mod KnownStreams
pub mod KnownWords
