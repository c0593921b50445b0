pub mod Logs
pub mod Outputs
pub mod Pieces
pub mod Steps
pub mod Verdicts
