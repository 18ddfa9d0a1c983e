pub mod Answered
mod Lines
pub mod OnLiterals
mod Values
