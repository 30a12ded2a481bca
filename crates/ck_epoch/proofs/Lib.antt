pub mod Emptying
pub mod Looks
pub mod FourLists
pub mod OpenSections
pub mod Timely
mod Records
mod RecordsKept
mod WriterKept
pub mod Keeps
pub mod EpochLaw
mod Insides
mod Changes
pub mod Reclaiming
pub mod Moments
pub mod Stepping
mod SectionSteps
mod ClientSteps
mod Retirements
mod Polling
mod Polled
mod Counting
mod Waits
mod TwoRounds
mod FirstWords
mod Parting
