pub mod Devices
pub mod Links
pub mod Doors
pub mod Log
pub mod Run
pub mod Beginning
pub mod inner
