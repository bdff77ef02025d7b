pub mod Acting
pub mod Proceeding
