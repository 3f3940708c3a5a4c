-- The tail waits alone, and then the steps are made.
use native.Mathlib.Omega.{arith}
use Rattle.signed.proofs.ViewLaws.{inside}
use Rattle.targets.proofs.TargetLaws.{sector_size}
use Rattle.walk_steps.proofs.WalkLaws.{start_ready, start_waits, walk_is}
use Rattle.walk_steps.proofs.walk_waiting.Goals as goal

pub sector-s-requires : goal.sector-s-requires
sector-s-requires c =
    let h = inside _ _ _ c.requires.tail_value in
    omega arith

pub put_in-requires : goal.put_in-requires
put_in-requires c = let rest = start_ready _ _ _ c.requires.le_tail c.requires.tail_value _ c.sector-s.ensures _ _ _ c.requires.waits
    (sector_size _ _ _ _ c.requires.image_len (inside _ _ _ c.requires.tail_value) c.sector-s.ensures) in record {
      s_len = rest.0;
      s_in_bounds = rest.1.0;
      waiting_len_bound = rest.1.1.0;
      tree_len = rest.1.1.1.0;
      tournament = rest.1.1.1.1;
    }

pub walk_steps-requires : goal.walk_steps-requires
walk_steps-requires c = let rest = start_waits _ _ _ c.requires.le_tail c.requires.tail_value _ c.sector-s.ensures _ _ _ c.requires.waits _ _ c.put_in.ensures c.put_in.auto.tree in record {
  image_len = c.requires.image_len;
  l_nonzero = rest.0;
  waits = rest.1;
}

pub returns : goal.returns
returns c =
    walk_is _ _ _ c.requires.le_tail c.requires.tail_value _ c.sector-s.ensures _ _ _ c.requires.waits _ _ c.put_in.ensures c.put_in.auto.tree
    c.requires.waiting_value c.requires.taken_value c.walk_steps.new.waiting c.walk_steps.new.taken c.walk_steps.auto.taken c.walk_steps.ensures
