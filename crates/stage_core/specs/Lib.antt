pub mod Stage
pub mod Seen
pub mod LiveState
pub mod Kept
pub mod Worked
pub mod inner
