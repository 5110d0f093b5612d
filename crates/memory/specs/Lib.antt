pub mod Meaning
pub mod Pages
pub mod Words
pub mod Lawful
pub mod Lending
