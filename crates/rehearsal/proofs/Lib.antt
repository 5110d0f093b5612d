pub mod Twinned
pub mod Staged
pub mod Prepared
pub mod Images
pub mod Promised
pub mod Reporting
pub mod Answered
