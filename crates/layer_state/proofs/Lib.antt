pub mod Pasts
pub mod Histories
pub mod Growth
