pub mod Naming
pub mod Holding
pub mod Following
pub mod Stuck
pub mod Explaining
