pub mod Parts
pub mod Standing
pub mod Acting
