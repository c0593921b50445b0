pub mod Faults
pub mod Places
pub mod Shown
pub mod Values
pub mod Walks
