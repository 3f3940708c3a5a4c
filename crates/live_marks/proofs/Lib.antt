-- What a scan found, as marks.
pub mod MarkLaws
