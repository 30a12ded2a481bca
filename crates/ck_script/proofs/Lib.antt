pub mod Saying
pub mod Standing
pub mod Checking
pub mod Ranges
pub mod Fronts
pub mod Circles
pub mod Meaning
pub mod Shorts
pub mod Prefixes
mod Viewing
mod Verbs
mod Columns
mod Keeping
mod Numbering
