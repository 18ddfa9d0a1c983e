pub mod AllZip
mod EndsWithStop
mod GoesOnAfter
mod HasBegun
mod HasRun
mod HasServed
mod HasWorked
mod HasWorkedAt
mod IsBeginning
mod IsExplainedLink
mod IsLogged
mod ListenerState
mod PassView
pub mod Reverse
pub mod Sessions
pub mod Tags
mod WorkerPasses
mod WriteHistory
