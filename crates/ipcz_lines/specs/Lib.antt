pub mod LineParts
pub mod Lines
