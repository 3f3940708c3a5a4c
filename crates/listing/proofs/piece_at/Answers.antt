-- A sector's piece is its word 4.
use Rattle.listing.proofs.ListLaws.{whole_sector, word_there}
use Rattle.listing.proofs.piece_at.Goals as goal

pub piece_of-requires : goal.piece_of-requires
piece_of-requires c =
    whole_sector _ _ _ _ c.requires.image_len c.requires.place_lt_n c.sector.ensures

pub returns : goal.returns
returns c =
    word_there _ _ _ _ c.requires.image_len c.requires.place_lt_n c.sector.ensures _ 4 c.piece_of.ensures
