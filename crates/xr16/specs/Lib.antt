pub mod Assemblies
pub mod Actions
pub mod Faults
pub mod Playing
pub mod Lent
