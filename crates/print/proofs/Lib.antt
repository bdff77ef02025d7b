pub mod Texts
pub mod Records
