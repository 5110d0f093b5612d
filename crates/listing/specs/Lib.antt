pub mod Numbers
pub mod Checks
pub mod Reading
pub mod Packing
pub mod Rules
pub mod Operands
pub mod Meaning
pub mod Slots
