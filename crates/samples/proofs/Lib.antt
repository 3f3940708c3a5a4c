-- The samples of document 01 as theorems, and rows beyond them.
pub mod Samples
pub mod Further
