pub mod PlayedLines
pub mod PlayedText
