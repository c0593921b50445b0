pub mod Closing
pub mod Counting
pub mod Covering
pub mod Joining
pub mod Leftovers
pub mod Naming
pub mod Placing
