-- What a batch hands back and leaves, as one value; and what is lent to one that no refusal stops.
pub mod Batch
