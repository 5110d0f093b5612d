pub mod Led
pub mod Lent
