pub mod Pieces
pub mod Reclaim
