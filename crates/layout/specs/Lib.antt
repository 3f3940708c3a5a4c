-- What a reader must believe of a sector: words, map sectors, entries and flipped blocks, the park record.
pub mod Bounded
pub mod Word
pub mod MapSector
pub mod Entry
pub mod ParkRecord
