-- Document 01: the numbers and values of the answers.
pub mod Answer
