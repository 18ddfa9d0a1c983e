pub mod PlayedLines
pub mod PlayedTicks
pub mod SheetMoments
pub mod SheetReadings
