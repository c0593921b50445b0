pub mod Adding
pub mod Grounding
pub mod Places
