pub mod SessionState
pub mod Step
pub mod Session
pub mod Illegal
pub mod Worked
pub mod inner
