pub mod Writing
pub mod Rows
pub mod Bands
pub mod LetIn
pub mod Numbers
pub mod Plans
pub mod Drawn
pub mod Ticks
