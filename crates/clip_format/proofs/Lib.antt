pub mod Files
pub mod Adding
mod Looking
pub mod Frames
pub mod Recoloured
pub mod Prepared
