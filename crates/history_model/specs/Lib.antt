pub mod stage
pub mod pictures
pub mod commands
pub mod sessions
pub mod text
pub mod scripts
pub mod recordings
pub mod Worked
