-- Nothing waits, or the newest is taken.
use Rattle.walk_steps.proofs.WalkLaws.{entry_ready, step_none, step_ready}
use Rattle.walk_steps.proofs.walk_step.Goals as goal

pub first-p-requires : goal.first-p-requires
first-p-requires c = let whole = entry_ready c.requires.waits 0 c.requires.l_nonzero in record {
  tree_len = whole.0;
  n_le_most_pieces = whole.1.0;
  n_nonzero = whole.1.1.0;
  tournament = whole.1.1.1;
}

pub returns-then-key_of-eq0 : goal.returns-then-key_of-eq0
returns-then-key_of-eq0 c =
    step_none _ _ _ _ _ c.requires.waits _ c.requires.l_nonzero c.first-p.ensures.0 c.key_of.result c.key_of.ensures c.if-key_of-eq0.true

pub take_and_read-requires : goal.take_and_read-requires
take_and_read-requires c = let whole = step_ready _ _ _ _ _ c.requires.waits _ c.requires.l_nonzero c.first-p.ensures.0 c.key_of.result c.key_of.ensures c.requires.image_len c.if-key_of-eq0.false in record {
  image_len = whole.0;
  waits = whole.1.0;
  p_bound = whole.1.1.0;
  p_value = whole.1.1.1.0;
  fact = whole.1.1.1.1;
}
