pub mod Line
pub mod Places
pub mod Options
pub mod Producer
pub mod Mixer
pub mod Recording
pub mod Command
pub mod Channels
