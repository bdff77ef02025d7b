pub mod Turning
pub mod Trying
