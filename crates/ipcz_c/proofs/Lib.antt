pub mod Answering
pub mod AsBox
pub mod CellAnswering
pub mod CellBox
pub mod Handing
pub mod HandingOut
pub mod Moving
pub mod SameOwner
