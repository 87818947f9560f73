pub mod Balance
pub mod Rules
pub mod Admission
pub mod Laws
