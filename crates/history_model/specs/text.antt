pub mod Parts
pub mod Frames
pub mod Replies
pub mod Commands
pub mod History
