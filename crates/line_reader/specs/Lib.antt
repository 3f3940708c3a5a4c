-- Where a reader stands in its window.
pub mod Reader
