pub mod Range
pub mod Zero
pub mod Exact
