pub mod Within
pub mod Told
pub mod Scripting
mod Counting
mod Asking
mod Commanding
mod Generating
pub mod Reporting
pub mod Ending
pub mod Verdicts
