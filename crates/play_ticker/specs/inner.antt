pub mod Loop
pub mod Items
pub mod Staging
pub mod Writing
