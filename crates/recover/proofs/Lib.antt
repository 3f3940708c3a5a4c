-- Laws that this crate's proofs cite.
mod RecoverLaws
