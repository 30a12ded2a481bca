pub mod Events
pub mod Answered
pub mod Places
