pub mod Lengths
pub mod Outcomes
