pub mod ViewerCommand
pub mod UnderWay
