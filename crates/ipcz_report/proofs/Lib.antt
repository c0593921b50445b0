pub mod Agreeing
pub mod Doomed
pub mod Judged
pub mod Opening
