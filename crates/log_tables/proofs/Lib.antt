-- Laws that this crate's proofs cite, and its callers' may.
pub mod AgreeLaws
pub mod LiveLaws
pub mod MapLaws
