-- Only the piece that the sector at the branch says can be live there.
use Rattle.listing.proofs.ListLaws.{only_there, reach_there}
use Rattle.listing.proofs.reach_branch.Goals as goal

pub reach-requires : goal.reach-requires
reach-requires c = record {
  places_len = c.requires.places_len;
  places_in_bounds = c.requires.places_in_bounds;
  by_index = only_there _ _ c.args.places.now _ _ _ c.requires.live c.requires.places_len c.branch_of-b.ensures.1 c.piece_at.ensures;
}

pub returns : goal.returns
returns c =
    reach_there c.args.reached.now c.args.places.now c.args.numbers.now _ _ c.args.bound _ c.branch_of-b.ensures.0 c.reach.ensures
