pub mod Views
pub mod Own
pub mod Calls
pub mod Closing
pub mod Seats
pub mod Rule
pub mod Steps
pub mod Worked
