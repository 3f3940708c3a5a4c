-- A tournament of keys.
pub mod Tournament
