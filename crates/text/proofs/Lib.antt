pub mod Buffers
pub mod Words
pub mod Numbers
