pub mod StreamWords
pub mod ServeChecks
pub mod Help
pub mod Options
pub mod CommandLine
pub mod KnownWords
