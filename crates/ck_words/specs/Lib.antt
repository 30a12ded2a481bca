pub mod Tree
pub mod Buddies
pub mod Blocks
pub mod Held
