pub mod Driving
pub mod Calling
