pub mod Unlocks
