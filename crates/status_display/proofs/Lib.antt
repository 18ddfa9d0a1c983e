pub mod ToldStatus
pub mod TickStatus
pub mod PushedMessages
