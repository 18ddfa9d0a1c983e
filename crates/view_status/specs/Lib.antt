pub mod Tokens
pub mod Timecode
pub mod Levels
pub mod Producer
pub mod Mixer
pub mod Status
pub mod Events
pub mod Worked
