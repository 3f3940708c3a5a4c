-- What a reader must believe of document 02, point 3: a batch of commits.
pub mod Batch
