pub mod Devices
pub mod WholeIo
