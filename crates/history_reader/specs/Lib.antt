pub mod HistoryText
pub mod Reading
pub mod Fault
pub mod Worked
pub mod inner
