pub mod Numbers
pub mod Exchanged
pub mod Ways
pub mod Tables
pub mod Swaps
pub mod Kept
pub mod Pasts
