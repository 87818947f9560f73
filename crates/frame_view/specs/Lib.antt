pub mod Places
pub mod Rows
pub mod Frame
pub mod Lending
pub mod Written
pub mod LentTogether
pub mod Lent
