pub mod Made
pub mod Checking
pub mod Placing
pub mod Reading
pub mod Writing
