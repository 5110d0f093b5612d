pub mod Extent
pub mod Addresses
pub mod Images
pub mod Frames
pub mod Lent
