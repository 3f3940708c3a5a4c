-- The parts give the plan of the definition.
use Rattle.plan.proofs.PlanLaws.{planning, pieces_few, pieces_room}
use Rattle.plan.proofs.plan.Goals as goal

pub count_members-sizes-requires : goal.count_members-sizes-requires
count_members-sizes-requires c = record {
  pieces_le_most_pieces = pieces_few c.args.s.geometry c.requires.geometry_value _ c.pieces_for.ensures;
  pieces_in_bounds = pieces_room c.args.s.geometry c.requires.geometry_value _ _ c.pieces_for.ensures c.list_untouched-listed.ensures.flags;
}

pub returns : goal.returns
returns c =
    planning _ _ _ _ _ _ _ _ _ _ _ _ _ _ _ _ c.requires.by_index c.pieces_for.ensures c.requires.numbers_len c.list_untouched-listed.ensures
    c.count_members-sizes.ensures.0 c.count_members-sizes.ensures.1 _ _ c.count_members-sizes.ensures.2 c.take_sectors-skipped.ensures.0
    c.take_sectors-skipped.ensures.1
