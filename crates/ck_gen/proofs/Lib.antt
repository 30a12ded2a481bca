mod Lines
pub mod Lawful
