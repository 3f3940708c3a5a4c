-- Nothing waits and nothing is taken yet.
use Prim.Native.Nat.{ℕ}
use mathlib.Core.Path.{sym, ◌∙◌}
use lib.ListN.{replicate, length-replicate}
use lib.Seq.{length-take-le}
use Rattle.walk_steps.proofs.WalkLaws.{few_taken, none_wait}
use Rattle.walk_steps.proofs.walk_from.Goals as goal

pub start-requires : goal.start-requires
start-requires c = record {
  tree_len = length-replicate {A = ℕ} 512 0;
  n_le_most_pieces = few_taken c.args.g c.requires.g_value _ c.requires.taken_value;
}

pub slice_bounds-waiting-end : goal.slice_bounds-waiting-end
slice_bounds-waiting-end c =
    few_taken c.args.g c.requires.g_value _ c.requires.taken_value

pub slice_bounds-walk_waiting-end : goal.slice_bounds-walk_waiting-end
slice_bounds-walk_waiting-end c =
    sym (length-take-le _ (replicate {A = ℕ} 256 0) (few_taken c.args.g c.requires.g_value _ c.requires.taken_value))

pub walk_waiting-requires : goal.walk_waiting-requires
walk_waiting-requires c = let rest = none_wait c.args.g c.requires.g_value _ c.requires.taken_value _ _ (c.start.auto.tree ∙ length-replicate {A = ℕ} 512 0) c.start.ensures in record {
  image_len = c.requires.image_len;
  le_tail = c.requires.le_tail;
  tail_value = c.requires.tail_value;
  waiting_value = rest.0;
  taken_value = rest.1.0;
  waits = rest.1.1;
}
