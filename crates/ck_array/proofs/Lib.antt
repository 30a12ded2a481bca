mod Loading
pub mod Resting
mod EditSteps
mod CommitSteps
mod Opened
mod Elsewhere
mod EventSteps
mod SignalSteps
mod AtOpening
mod AllSteps
mod Polled
mod Edits
mod Results
mod Answering
mod Placing
mod Counts
mod Closing
