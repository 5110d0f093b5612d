pub mod Chunks
pub mod Passes
pub mod Sections
pub mod Steps
