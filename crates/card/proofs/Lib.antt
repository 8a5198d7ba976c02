pub mod Steps
pub mod Logs
