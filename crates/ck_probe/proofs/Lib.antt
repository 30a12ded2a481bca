pub mod EntryBlocks
pub mod NameBytes
pub mod OddStrides
pub mod SlotOrder
pub mod WordBytes
