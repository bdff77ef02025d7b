pub mod Linking
pub mod Procedures
pub mod Lookup
pub mod Leading
