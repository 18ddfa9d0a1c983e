pub mod Rendered
pub mod Histories
pub mod Plans
pub mod Rows
pub mod Bands
pub mod inner
