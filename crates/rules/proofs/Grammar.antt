-- "A table is accepted exactly when it spells a recipe, and each recipe within the limits has one table."
pub mod Rows
pub mod Reading
pub mod Checking
pub mod Passing
pub mod Spawns
pub mod Accepting
pub mod Bytes
pub mod Theorem
