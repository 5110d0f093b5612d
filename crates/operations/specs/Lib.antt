pub mod Arithmetic
pub mod Conditions
pub mod Forerunners
pub mod Operations
