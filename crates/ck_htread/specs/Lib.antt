pub mod Scan
pub mod Reading
pub mod Roots
pub mod Answered
