-- What an exported call hands back and leaves.
pub mod Handed
