pub mod Answer
pub mod Conversation
