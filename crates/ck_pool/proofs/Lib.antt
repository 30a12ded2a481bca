mod Running
mod Taking
pub mod Files
mod Dequeuing
pub mod Opening
pub mod Composing
pub mod MapJobs
mod Snapping
