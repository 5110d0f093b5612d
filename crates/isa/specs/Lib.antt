pub mod Refusals
pub mod Words
pub mod Laws
pub mod Registers
pub mod Immediates
pub mod Mnemonics
