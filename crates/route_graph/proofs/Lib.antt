pub mod ShownLayers
pub mod Ticks
pub mod Past
