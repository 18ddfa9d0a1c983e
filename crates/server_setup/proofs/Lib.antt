pub mod Setups
pub mod FirstFault
