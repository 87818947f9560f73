-- Which replies are right, and that there is one and no other choice.
pub mod Choices
pub mod Images
pub mod Replies
pub mod Bares
pub mod Allowing
pub mod Admissions
