pub mod Reads
pub mod Writes
pub mod Ends
pub mod Events
pub mod Edited
pub mod Answered
pub mod Closed
