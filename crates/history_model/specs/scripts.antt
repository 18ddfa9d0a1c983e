pub mod Line
pub mod History
pub mod Input
pub mod Output
pub mod Memory
pub mod Struck
pub mod Replies
pub mod Generator
