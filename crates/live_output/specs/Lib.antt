pub mod Picked
pub mod Cut
pub mod Last
pub mod Got
pub mod Served
pub mod Wanted
