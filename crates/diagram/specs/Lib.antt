pub mod Blocks
pub mod Keys
pub mod Diagrams
pub mod States
pub mod Drafts
pub mod Chains
pub mod Masks
