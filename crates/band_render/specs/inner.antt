pub mod Drawing
pub mod Numbers
pub mod Rooms
pub mod Shares
