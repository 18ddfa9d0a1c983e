pub mod Parted
pub mod Sink
pub mod Clock
pub mod Link
pub mod Door
pub mod Media
