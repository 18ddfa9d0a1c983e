pub mod Items
pub mod Lists
pub mod Views
pub mod Calls
pub mod Counts
