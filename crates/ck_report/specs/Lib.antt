pub mod Text
pub mod Reports
pub mod Lines
pub mod Streaming
pub mod Numbered
pub mod ListText
pub mod Tails
pub mod Pairing
