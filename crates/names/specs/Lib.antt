-- How entries are marked.
pub mod Marked
