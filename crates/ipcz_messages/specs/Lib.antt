pub mod Closes
pub mod Ends
pub mod Joining
pub mod Leftovers
pub mod Messages
pub mod Named
