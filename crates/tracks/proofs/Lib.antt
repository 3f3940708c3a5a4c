-- What is shown of the choice of place: the rows that a wrong one runs into.
pub mod Tracks
