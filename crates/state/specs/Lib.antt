-- Document 01: the state and its phases.
pub mod State
