pub mod Listing
pub mod Scan
pub mod Faults
pub mod inner
