-- A commit as the code goes about it.
pub mod Commit
