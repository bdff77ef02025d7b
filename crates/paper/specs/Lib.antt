pub mod Paper
pub mod Follows
