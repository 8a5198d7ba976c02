pub mod Living
pub mod Slots
pub mod Memory
pub mod Turns
pub mod Lacking
pub mod Filling
pub mod Levelling
pub mod Compiled
