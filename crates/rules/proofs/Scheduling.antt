-- Demand 3 and "continued equals one run", over any task language.
pub mod Lawful
pub mod Induction
pub mod Bound
pub mod Along
pub mod Turns
pub mod Stuck
pub mod Whole
pub mod Endings
pub mod Loop
pub mod Demand
