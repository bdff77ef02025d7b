pub mod Follow
pub mod Explained
