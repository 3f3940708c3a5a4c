-- Laws that this crate's proofs cite, and its callers' may.
pub mod Costs
pub mod Commits
pub mod Making
pub mod Whole
