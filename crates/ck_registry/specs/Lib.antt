pub mod State
pub mod Epochs
pub mod Held
pub mod Deferred
pub mod Ends
pub mod Calls
pub mod Scan
pub mod Closing
