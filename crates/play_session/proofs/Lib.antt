pub mod Batches
pub mod Standing
pub mod NextLine
pub mod NextToken
pub mod Fitting
pub mod WholeLine
pub mod Filled
