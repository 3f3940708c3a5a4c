-- The copy has the same bits, so the places are the same.
use native.Mathlib.Omega.{arith}
use Rattle.plan.proofs.PlanLaws.{few_sectors, taken_first, skipped_first}
use Rattle.plan.proofs.take_in.Goals as goal

pub find_places-requires : goal.find_places-requires
find_places-requires c = record {
  d_value = c.requires.d_value;
  n_le_most_sectors = few_sectors c.args.g c.requires.g_value;
  head_lt_n = c.requires.head_lt_n;
  n_bound = omega arith;
  known_value = c.requires.known_value;
  count_in_bounds = c.requires.count_in_bounds;
  count_le_commit_sectors = c.requires.count_le_commit_sectors;
}

pub returns : goal.returns
returns c =
    (taken_first _ _ _ _ _ _ _ _ c.find_places.ensures.0 c.copy_used.ensures, skipped_first _ _ _ _ _ _ _ c.find_places.ensures.1 c.copy_used.ensures)
