pub mod Audit
pub mod EntryText
pub mod Laws
