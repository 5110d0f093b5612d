pub mod Boards
pub mod Twins
pub mod Stages
pub mod Reports
pub mod Laws
