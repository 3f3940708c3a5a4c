-- Volumes and settings by their numbers, for rows.
pub mod Sized
