mod Growing
mod Kept
mod TrueSignals
mod Steps
