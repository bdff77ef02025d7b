pub mod Drive
pub mod Calls
