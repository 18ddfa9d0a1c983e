pub mod FileClip
