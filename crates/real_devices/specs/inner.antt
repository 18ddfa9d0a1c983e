pub mod Schedule
pub mod OpenLine
pub mod Watch
pub mod Places
pub mod Stall
pub mod Patience
pub mod Accepting
pub mod Fill
