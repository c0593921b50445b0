pub mod Bands
pub mod Marks
pub mod Outputs
pub mod Parts
pub mod Rows
pub mod Scenes
pub mod Sizes
pub mod Words
