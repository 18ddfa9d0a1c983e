pub mod Digits
mod Rows
mod Lines
