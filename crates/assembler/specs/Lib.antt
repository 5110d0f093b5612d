pub mod Found
pub mod Listings
pub mod Measures
pub mod Plans
