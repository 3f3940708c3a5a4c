-- All that has passed by is used, and k is under the head now.
use Prim.Native.Nat.{◌-◌}
use mathlib.Core.Path.{◌∙◌, sym}
use native.Mathlib.Omega.{arith}
use Rattle.volume.specs.Tables.{bit_at}
use Rattle.searching.proofs.TrackLaws.{turned_none, turned_inside, run_turned, run_passed}
use Rattle.searching.proofs.search_track.Goals as goal

pub overflow_add-end : goal.overflow_add-end
overflow_add-end c = omega arith

pub loop-skipped-init : goal.loop-skipped-init
loop-skipped-init c =
    (turned_none c.args.first c.args.size c.args.start c.requires.first_le_start c.requires.start_bound, omega arith, λ w h. absurd (omega arith))

pub overflow_cast-k : goal.overflow_cast-k
overflow_cast-k c =
    let inside = (turned_inside c.args.first c.args.size c.args.start c.requires.first_le_start c.requires.start_bound c.loop-skipped.skipped).1 in
    omega arith

pub is_set-requires : goal.is_set-requires
is_set-requires c =
    let inside = (turned_inside c.args.first c.args.size c.args.start c.requires.first_le_start c.requires.start_bound c.loop-skipped.skipped).1 in
    omega arith

pub overflow_sub-steps : goal.overflow_sub-steps
overflow_sub-steps c = c.loop-skipped.invariant.1

pub used_run-run-requires : goal.used_run-run-requires
used_run-run-requires c =
    let inside = (turned_inside c.args.first c.args.size c.args.start c.requires.first_le_start c.requires.start_bound c.loop-skipped.skipped).1 in record {
      k_lt_n = omega arith;
      steps_nonzero = omega arith;
      n_bound = c.requires.size_bound_2;
      k_value = sym c.is_set.ensures ∙ c.if-is_set.true;
    }

pub overflow_add-k : goal.overflow_add-k
overflow_add-k c =
    omega arith

pub overflow_add-skipped : goal.overflow_add-skipped
overflow_add-skipped c =
    omega arith

pub loop-skipped-smaller : goal.loop-skipped-smaller
loop-skipped-smaller c =
    omega arith

pub loop-skipped-preserved : goal.loop-skipped-preserved
loop-skipped-preserved c = (
  run_turned c.args.first c.args.size c.args.start c.requires.first_le_start c.requires.start_bound c.loop-skipped.skipped c.loop-skipped.k c.used_run-run.result c.around-k.result c.loop-skipped.invariant.0 c.used_run-run.ensures.2 c.around-k.ensures,
  omega arith,
  run_passed c.args.first c.args.size c.args.start c.requires.first_le_start c.requires.start_bound (bit_at c.args.used.now) c.loop-skipped.skipped c.loop-skipped.k
      c.used_run-run.result (c.args.steps - c.loop-skipped.skipped) c.loop-skipped.invariant.0 c.used_run-run.ensures c.loop-skipped.invariant.2,
)

pub returns-after-loop-skipped : goal.returns-after-loop-skipped
returns-after-loop-skipped c =
    (c.loop-skipped.invariant.0, c.loop-skipped.invariant.1, c.loop-skipped.invariant.2, λ h. absurd (omega arith))

pub returns-else-is_set : goal.returns-else-is_set
returns-else-is_set c =
    (c.loop-skipped.invariant.0, c.loop-skipped.invariant.1, c.loop-skipped.invariant.2, λ h. sym c.is_set.ensures ∙ c.if-is_set.false)
