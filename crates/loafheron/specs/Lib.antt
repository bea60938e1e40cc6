pub mod Crossing
pub mod Answers
pub mod Places
