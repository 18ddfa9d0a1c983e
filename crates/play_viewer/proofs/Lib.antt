mod FirstFault
mod HasItsCause
mod Lines
mod Moves
pub mod OnLiterals
mod Runs
