pub mod Dooms
pub mod Faults
pub mod Judging
pub mod Notes
pub mod Outputs
pub mod Remarks
pub mod Reports
