pub mod Histories
pub mod Books
pub mod Texts
