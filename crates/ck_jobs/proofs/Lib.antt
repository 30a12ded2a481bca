mod Placing
mod Ends
mod Ascending
mod Bringing
mod Counting
mod Lines
mod Tables
mod Arrays
