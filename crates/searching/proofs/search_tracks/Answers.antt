-- No sector is free at the positions that have passed by, and `at` is under the head now.
use Prim.Native.Nat.{ℕ, ◌+◌, ◌-◌}
use mathlib.Core.Path.{◌∙◌, refl, subst}
use native.Mathlib.Omega.{arith}
use Rattle.volume.specs.Tables.{bit_at}
use Rattle.searching.specs.Searching.{LowestFree}
use Rattle.searching.proofs.TrackLaws.{run_more, first_position, next_position, none_yet, none_more, one_more, full_passed}
use Rattle.searching.proofs.search_tracks.Goals as goal

pub loop-skipped-init : goal.loop-skipped-init
loop-skipped-init c = (
  first_position c.args.size c.args.position c.requires.position_lt_size,
  c.requires.position_lt_size,
  omega arith,
  refl,
  none_yet (bit_at c.args.used.now) c.args.n c.args.size c.args.position,
  c.requires.known,
)

pub overflow_sub-size : goal.overflow_sub-size
overflow_sub-size c = c.loop-skipped.invariant.2

pub full_until-requires : goal.full_until-requires
full_until-requires c = record {
  position_lt_size = c.loop-skipped.invariant.1;
  size_le_most_sectors = c.requires.size_le_most_sectors;
}

pub overflow_sub-run : goal.overflow_sub-run
overflow_sub-run c = c.full_until.ensures.0

pub overflow_add-at : goal.overflow_add-at
overflow_add-at c =
    omega arith

pub overflow_add-skipped : goal.overflow_add-skipped
overflow_add-skipped c =
    omega arith

pub look_at-requires : goal.look_at-requires
look_at-requires c =
    let run = c.full_until.result - c.loop-skipped.at in
    let next = next_position c.args.size c.args.position c.loop-skipped.skipped c.loop-skipped.at run c.around-at.result c.loop-skipped.invariant.0 c.loop-skipped.invariant.1 (omega arith) c.around-at.ensures in record {
      position_lt_size = next.1;
      size_le_most_sectors = c.requires.size_le_most_sectors;
      n_le_most_sectors = c.requires.n_le_most_sectors;
      n_bound = c.requires.n_bound;
      known = c.loop-skipped.invariant.5;
    }

pub overflow_add-at-in-loop-skipped : goal.overflow_add-at-in-loop-skipped
overflow_add-at-in-loop-skipped c =
    let run = c.full_until.result - c.loop-skipped.at in
    let next = next_position c.args.size c.args.position c.loop-skipped.skipped c.loop-skipped.at run c.around-at.result c.loop-skipped.invariant.0 c.loop-skipped.invariant.1 (omega arith) c.around-at.ensures in
    let inside = next.1 in
    omega arith

pub overflow_add-skipped-in-loop-skipped : goal.overflow_add-skipped-in-loop-skipped
overflow_add-skipped-in-loop-skipped c =
    omega arith

pub loop-skipped-smaller : goal.loop-skipped-smaller
loop-skipped-smaller c =
    omega arith

pub loop-skipped-preserved : goal.loop-skipped-preserved
loop-skipped-preserved c =
    let run = c.full_until.result - c.loop-skipped.at in
    let next = next_position c.args.size c.args.position c.loop-skipped.skipped c.loop-skipped.at run c.around-at.result c.loop-skipped.invariant.0 c.loop-skipped.invariant.1 (omega arith) c.around-at.ensures in
    let u = bit_at c.args.used.now in
    let passed = none_more u c.args.n c.args.size c.args.position c.loop-skipped.skipped c.loop-skipped.at run c.loop-skipped.invariant.0 (omega arith)
    c.loop-skipped.invariant.4 (full_passed c.loop-skipped.known u c.args.n c.args.size c.loop-skipped.at c.full_until.result c.full_until.ensures.3
    c.loop-skipped.invariant.5) in
    let inside = next.1 in
    let more = run_more c.args.size (c.loop-skipped.skipped + run) (omega arith) c.if-skipped-size.false in
    let then = next_position c.args.size c.args.position (c.loop-skipped.skipped + run) c.around-at.result 1 c.around-at-in-loop-skipped.result next.0 inside (omega arith) c.around-at-in-loop-skipped.ensures in (
      then.0,
      then.1,
      omega arith,
      c.look_at.auto.known ∙ c.loop-skipped.invariant.3,
      none_more u c.args.n c.args.size c.args.position (c.loop-skipped.skipped + run) c.around-at.result 1 next.0 (omega arith) passed (one_more u c.args.n c.args.size c.around-at.result c.in_default.ensures.found),
      c.look_at.ensures.known,
    )

pub shape_of-known-then-skipped-size : goal.shape_of-known-then-skipped-size
shape_of-known-then-skipped-size c = c.loop-skipped.invariant.3

pub returns-then-skipped-size : goal.returns-then-skipped-size
returns-then-skipped-size c =
    let run = c.full_until.result - c.loop-skipped.at in
    let u = bit_at c.args.used.now in
    let passed = none_more u c.args.n c.args.size c.args.position c.loop-skipped.skipped c.loop-skipped.at run c.loop-skipped.invariant.0 (omega arith)
    c.loop-skipped.invariant.4 (full_passed c.loop-skipped.known u c.args.n c.args.size c.loop-skipped.at c.full_until.result c.full_until.ensures.3
    c.loop-skipped.invariant.5) in
    (omega arith, passed, λ h. absurd (omega arith), λ h. c.if-skipped-size.true, c.loop-skipped.invariant.5)

pub shape_of-known-in-Some : goal.shape_of-known-in-Some
shape_of-known-in-Some c = c.look_at.auto.known ∙ c.loop-skipped.invariant.3

pub returns-in-Some : goal.returns-in-Some
returns-in-Some c =
    let run = c.full_until.result - c.loop-skipped.at in
    let next = next_position c.args.size c.args.position c.loop-skipped.skipped c.loop-skipped.at run c.around-at.result c.loop-skipped.invariant.0 c.loop-skipped.invariant.1 (omega arith) c.around-at.ensures in
    let u = bit_at c.args.used.now in
    let passed = none_more u c.args.n c.args.size c.args.position c.loop-skipped.skipped c.loop-skipped.at run c.loop-skipped.invariant.0 (omega arith)
    c.loop-skipped.invariant.4 (full_passed c.loop-skipped.known u c.args.n c.args.size c.loop-skipped.at c.full_until.result c.full_until.ensures.3
    c.loop-skipped.invariant.5) in
    let inside = c.in-Some.ensures.found.0 in (
      omega arith,
      passed,
      λ _. subst (λ (x : ℕ). LowestFree u c.args.size x c.in-Some.k) next.0 c.in-Some.ensures.found.1,
      λ h. absurd (omega arith),
      c.look_at.ensures.known,
    )
