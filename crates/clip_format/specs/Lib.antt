pub mod Decoding
pub mod Recolouring
pub mod Preparing
pub mod Table
pub mod Shown
pub mod Worked
pub mod inner
