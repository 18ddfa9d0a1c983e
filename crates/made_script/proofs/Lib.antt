pub mod Making
pub mod MadeScripts
pub mod SummaryTexts
pub mod Drawing
pub mod Tallying
