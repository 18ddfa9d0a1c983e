mod Padded
mod Characters
mod Values
mod Turns
mod Messages
mod Formed
mod Digits
mod StatusLines
pub mod OnLiterals
