pub mod Size
pub mod Header
pub mod Bitmap
pub mod Worked
pub mod inner
