pub mod Check
pub mod Kinds
pub mod Refusals
