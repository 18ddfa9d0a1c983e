pub mod ADeviceFails
mod AreUnused
mod CopyChannels
mod EndsWithFault
mod HasItsCause
mod IsLogOf
pub mod OnLiterals
mod RunsLine
mod RunsServer
mod GoesOn
mod SaysLine
