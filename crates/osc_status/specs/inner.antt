pub mod Reading
pub mod Views
pub mod Form
pub mod Plain
pub mod Lines
