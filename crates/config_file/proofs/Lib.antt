pub mod OnLiterals
mod Reading
mod Told
mod Unknown
mod Elements
