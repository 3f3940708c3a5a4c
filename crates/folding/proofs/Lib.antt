-- Computed commits on 47 and 49 pieces.
pub mod Folding
