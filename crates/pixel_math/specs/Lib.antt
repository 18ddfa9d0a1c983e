pub mod Pixel
pub mod Arithmetic
