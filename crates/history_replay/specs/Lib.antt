pub mod Replay
pub mod ReplayOutput
pub mod Cut
pub mod Worked
