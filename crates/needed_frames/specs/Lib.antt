pub mod Depth
pub mod Made
pub mod Counted
pub mod Rendered
pub mod Worked
