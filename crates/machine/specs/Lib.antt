pub mod Waits
pub mod Layouts
pub mod Checks
pub mod Steps
pub mod Runs
pub mod Loads
pub mod Laws
