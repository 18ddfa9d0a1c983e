pub mod Rows
pub mod Bytes
pub mod Writing
pub mod Pieces
pub mod Vectors
pub mod Sides
