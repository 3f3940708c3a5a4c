-- What a caller may know of the tables before they are looked at.
pub mod Known
