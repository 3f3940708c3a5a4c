-- What waits there is signed; its piece is done, and its branches are read.
use Rattle.walk_steps.proofs.WalkLaws.{entry_ready, read_ready, step_some}
use Rattle.walk_steps.proofs.take_and_read.Goals as goal

pub change-requires : goal.change-requires
change-requires c = let whole = entry_ready c.requires.waits _ c.requires.p_bound in record {
  tree_len = whole.0;
  n_le_most_pieces = whole.1.0;
  q_lt_n = whole.1.1.0;
  tournament = whole.1.1.1;
}

pub read_targets-requires : goal.read_targets-requires
read_targets-requires c = let whole = read_ready _ _ _ _ _ c.requires.waits _ c.requires.p_bound c.requires.fact c.requires.image_len _ c.change.auto.tree c.change.ensures in record {
  image_len = whole.0;
  k_value = whole.1.0;
  waits = whole.1.1;
}

pub returns : goal.returns
returns c =
    (step_some _ _ _ _ _ c.requires.waits _ c.requires.p_bound c.requires.fact c.requires.p_value _ c.read_targets.ensures.0, c.read_targets.ensures.1)
