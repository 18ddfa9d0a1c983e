pub mod Chains
pub mod Fields
