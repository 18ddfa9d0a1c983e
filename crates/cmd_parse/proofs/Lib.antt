pub mod Texts
pub mod Areas
pub mod Manner
pub mod Keywords
pub mod OptionLaws
pub mod Prefixes
pub mod Hexadecimal
pub mod Clips
