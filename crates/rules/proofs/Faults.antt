-- "Table first: the earliest faulty record decides": the rules of each record by its index, and the check that finds the first one broken.
pub mod Rules
pub mod Telling
pub mod Local
pub mod Theorem
