pub mod Stops
pub mod Along
pub mod Deciding
