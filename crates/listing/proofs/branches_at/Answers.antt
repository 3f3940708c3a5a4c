-- A signed sector has at most 24 branches.
use Rattle.listing.proofs.ListLaws.{whole_sector, branches_there}
use Rattle.listing.proofs.branches_at.Goals as goal

pub branch_count-requires : goal.branch_count-requires
branch_count-requires c =
    whole_sector _ _ _ _ c.requires.image_len c.requires.place_lt_n c.sector.ensures

pub returns : goal.returns
returns c =
    branches_there _ _ _ _ c.requires.image_len c.requires.place_lt_n c.sector.ensures c.requires.place_value _ c.branch_count.ensures
