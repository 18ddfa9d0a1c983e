pub mod ServerCommand
pub mod Ending
pub mod Resuming
