-- A commit as the arrays of the code hold it.
pub mod Arrays
