pub mod CommandLine
pub mod Converting
pub mod Program
pub mod inner
