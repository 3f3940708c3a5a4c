-- The parts of "sound".
pub mod Parts
