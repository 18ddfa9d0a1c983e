pub mod Bounds
pub mod Counting
pub mod Greatest
pub mod Same
pub mod Rendering
pub mod Whole
