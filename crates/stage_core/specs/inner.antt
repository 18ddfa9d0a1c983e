pub mod Drawn
pub mod Found
pub mod Seen
pub mod Settled
pub mod Shown
pub mod Target
