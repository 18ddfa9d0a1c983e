pub mod Words
pub mod Stream
pub mod inner
