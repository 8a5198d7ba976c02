pub mod Around
pub mod Rounds
pub mod Probes
pub mod Moves
pub mod Cuts
