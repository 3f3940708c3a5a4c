-- The sectors that a scan takes as live.
pub mod Live
