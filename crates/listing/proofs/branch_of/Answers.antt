-- A signed sector's branches name sectors.
use Rattle.listing.proofs.ListLaws.{branch_whole, branch_there}
use Rattle.listing.proofs.branch_of.Goals as goal

pub branch_at-requires : goal.branch_at-requires
branch_at-requires c = let whole = branch_whole _ _ _ _ c.requires.image_len c.requires.place_lt_n c.sector.ensures c.requires.place_value _ c.requires.i_bound in record {
  s_len = whole.0;
  i_lt_branch_room = whole.1;
}

pub returns : goal.returns
returns c =
    branch_there _ _ _ _ c.requires.image_len c.requires.place_lt_n c.sector.ensures c.requires.place_value _ _ c.requires.i_bound c.branch_at.ensures
