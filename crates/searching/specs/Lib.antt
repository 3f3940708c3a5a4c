-- What the searches along a track and across the tracks say.
pub mod Searching
