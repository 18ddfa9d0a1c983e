pub mod Shown
pub mod Routes
pub mod Past
pub mod Worked
pub mod inner
