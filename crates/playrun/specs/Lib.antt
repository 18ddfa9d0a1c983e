pub mod Stream
pub mod Play
