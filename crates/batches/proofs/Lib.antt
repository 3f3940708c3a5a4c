-- The rows that a wrong definition of a batch runs into.
pub mod Rows
