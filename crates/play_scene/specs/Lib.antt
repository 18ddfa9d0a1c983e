pub mod Picture
pub mod Frames
pub mod Parts
pub mod Worked
pub mod WorkedScenes
pub mod inner
