pub mod FirstLines
pub mod Readings
pub mod LinesLeft
pub mod Orders
pub mod Unfolded
pub mod Timed
pub mod OneLines
pub mod EarlyEnds
