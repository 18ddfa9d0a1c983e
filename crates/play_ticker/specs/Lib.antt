pub mod Frames
pub mod Starts
pub mod Outputs
pub mod Ends
pub mod inner
