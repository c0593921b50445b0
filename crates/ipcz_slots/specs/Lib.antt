pub mod Slots
pub mod SlotKinds
pub mod Numbers
