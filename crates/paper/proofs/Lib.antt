pub mod Shown
pub mod Exact
pub mod Derivations
pub mod Follows
pub mod Runs
