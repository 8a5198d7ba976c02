pub mod Cells
pub mod Helds
pub mod Shifts
pub mod Hashes
