-- Laws that this crate's proof cites.
mod ScanLaws
