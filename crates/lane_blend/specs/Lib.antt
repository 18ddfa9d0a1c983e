pub mod Rows
pub mod Steps
pub mod Lines
pub mod Weights
pub mod inner
