-- The branches that a commit may list.
pub mod Untouched
