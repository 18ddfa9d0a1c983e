pub mod Picking
pub mod Frames
pub mod Cutting
pub mod Written
pub mod Wanted
