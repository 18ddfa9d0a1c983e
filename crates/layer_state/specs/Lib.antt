pub mod Shown
pub mod Past
pub mod Ticks
pub mod Worked
pub mod inner
