pub mod Digits
pub mod Values
pub mod EndZeros
pub mod Places
pub mod ReadsBack
