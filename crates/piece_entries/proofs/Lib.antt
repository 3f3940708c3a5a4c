-- Laws that this crate's proofs cite, and its callers' may.
pub mod EntryLaws
