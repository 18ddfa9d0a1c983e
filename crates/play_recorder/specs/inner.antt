pub mod Begun
pub mod EachEvent
pub mod Replay
pub mod Frames
pub mod Recorder
pub mod Depths
pub mod Needed
pub mod Last
