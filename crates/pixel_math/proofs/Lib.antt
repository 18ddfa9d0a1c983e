pub mod Bytes
pub mod ColourBytes
pub mod Pixels
