-- What an account keeps, what can be charged to it, and how long.
pub mod Accounts
pub mod Demands
pub mod Since
pub mod Tenures
pub mod Lives
pub mod AtOnce
pub mod Facts
