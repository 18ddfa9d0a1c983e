pub mod Fresh
pub mod State
pub mod Stream
pub mod inner
