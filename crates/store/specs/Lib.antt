pub mod Rows
pub mod Meaning
pub mod Finds
pub mod Flats
