pub mod Reading
pub mod Detail
