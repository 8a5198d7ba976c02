pub mod Fitting
pub mod Meeting
pub mod Firsts
pub mod Goods
pub mod Asked
pub mod Digits
pub mod Examples
