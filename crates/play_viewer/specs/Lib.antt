pub mod ViewerWords
pub mod Moves
pub mod Desk
pub mod Viewing
pub mod Program
pub mod Statuses
pub mod Worked
pub mod inner
