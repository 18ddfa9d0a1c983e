pub mod History
pub mod Target
pub mod Query
pub mod Page
pub mod View
pub mod Messages
pub mod Faults
pub mod inner
