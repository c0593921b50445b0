pub mod Calling
pub mod Following
pub mod Seeing
pub mod Sizing
