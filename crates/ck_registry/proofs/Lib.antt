mod OpenSections
mod Change
mod StepKinds
mod Keeps
pub mod RegistryLaw
mod Waiting
pub mod Stepping
mod SectionSteps
mod ScanSteps
mod Trying
mod Dispatching
mod Scanned
mod Advancing
mod FirstWords
mod Parting
pub mod Visitors
mod Seats
