-- The walk as the code goes about it.
pub mod Waiting
