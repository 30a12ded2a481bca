pub mod Events
pub mod Getting
pub mod Ends
pub mod Room
pub mod Updating
pub mod Settled
pub mod Closed
