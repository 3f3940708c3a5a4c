-- A target that does not wait changes nothing; another is put in.
use native.Mathlib.Omega.{arith}
use borrow.Author.Tests.{not-true, not-false}
use Rattle.targets.proofs.TargetLaws.{sector_size, target_out, target_ready, target_in}
use mathlib.Core.Path.{ap}
use mathlib.Core.Bool.{not}
use Rattle.targets.proofs.read_target.Goals as goal

pub does_wait-requires : goal.does_wait-requires
does_wait-requires c = record {
  tree_len = c.requires.waits.tree_long;
  taken_len_bound = omega arith;
  s_len = sector_size _ _ _ _ c.requires.image_len c.requires.target_lt_n c.sector-s.ensures;
  le_n = omega arith;
}

pub returns-then-not-does_wait : goal.returns-then-not-does_wait
returns-then-not-does_wait c =
    target_out _ _ _ _ _ _ c.requires.waits _ c.requires.target_lt_n _ c.sector-s.ensures c.does_wait.result c.does_wait.ensures
    (not-true c.does_wait.result (ap not c.if-not-does_wait.true))

pub put_in-requires : goal.put_in-requires
put_in-requires c = let whole = target_ready _ _ _ _ _ _ c.requires.waits _ c.requires.target_lt_n _ c.sector-s.ensures c.does_wait.result c.does_wait.ensures
    (sector_size _ _ _ _ c.requires.image_len c.requires.target_lt_n c.sector-s.ensures) (not-false c.does_wait.result (ap not c.if-not-does_wait.false)) in record {
      s_len = whole.0;
      s_in_bounds = whole.1.0;
      waiting_len_bound = whole.1.1.0;
      tree_len = whole.1.1.1.0;
      tournament = whole.1.1.1.1;
    }

pub returns : goal.returns
returns c =
    target_in _ _ _ _ _ _ c.requires.waits _ c.requires.target_lt_n _ c.sector-s.ensures c.does_wait.result c.does_wait.ensures
    c.requires.le_target (not-false c.does_wait.result (ap not c.if-not-does_wait.false)) _ _ c.put_in.ensures c.put_in.auto.tree
