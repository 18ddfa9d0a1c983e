pub mod Counted
pub mod Listed
pub mod Loudest
pub mod Objects
pub mod OnLiterals
pub mod Words
pub mod Written
