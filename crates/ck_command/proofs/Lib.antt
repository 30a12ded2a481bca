mod Rows
mod Turns
mod Walking
mod Parsing
