pub mod Puts
pub mod Shelves
