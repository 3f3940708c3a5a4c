-- The fold's flags are the ones counted.
use Rattle.plan.proofs.PlanLaws.{counted_few}
use Rattle.plan.proofs.count_members.Goals as goal

pub returns : goal.returns
returns c =
    (c.fold-branches.ensures.0, c.fold-branches.ensures.1, c.count_flagged.ensures, counted_few _ _ _ _ c.count_flagged.ensures c.requires.pieces_le_most_pieces)
