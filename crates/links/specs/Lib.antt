pub mod Links
pub mod Linked
