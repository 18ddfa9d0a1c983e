pub mod Sorting
mod Twice
mod ClipFiles
mod Pixels
mod FilesRead
mod Scans
