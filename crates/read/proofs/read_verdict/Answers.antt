-- Each refusal is the first that applies, by the laws of ReadLaws.
use mathlib.Core.Path.{refl, ap}
use Rattle.std.proofs.lemmas.Result.{err_from_is_err_and}
use Rattle.state.specs.State.{is_readable}
use Rattle.read.proofs.ReadLaws.{readable_arm, lengths_refused, block_refused, phase_refused, readable_judged, in_map, some_sectors}
use borrow.Enum.Refused.{opened}
use Rattle.read.proofs.read_verdict.Goals as goal

pub returns-then-g-block : goal.returns-then-g-block
returns-then-g-block c =
    block_refused _ _ _ _ _ _ _ _ _ (rw c.lengths.ensures at c.in_ok-state_verdict.ensures) refl c.if-g-block.true

pub bounds-t-block : goal.bounds-t-block
bounds-t-block c =
    in_map c.args.s c.args.image.now c.args.t.now.map.now c.args.t.now.places.now c.args.t.now.numbers.now c.args.t.now.used.now c.args.block c.args.out _ (rw c.lengths.ensures at c.in_ok-state_verdict.ensures) refl c.if-g-block.false

pub entry_verdict-requires : goal.entry_verdict-requires
entry_verdict-requires c =
    some_sectors c.args.s c.args.image.now c.args.t.now.map.now c.args.t.now.places.now c.args.t.now.numbers.now c.args.t.now.used.now c.args.block c.args.out _ (rw c.lengths.ensures at c.in_ok-state_verdict.ensures) refl

pub returns-in_err-state_verdict : goal.returns-in_err-state_verdict
returns-in_err-state_verdict c =
    let p = err_from_is_err_and c.from_residual.result c.from_residual.ensures.1 in
    rw (p.1, p.2) (lengths_refused _ _ _ _ _ _ _ _ _ (rw c.lengths.ensures at c.in_err-state_verdict.ensures) _ refl)

pub returns-in-Running : goal.returns-in-Running
returns-in-Running c =
    readable_judged _ _ _ _ _ _ _ _ _ (rw c.lengths.ensures at c.in_ok-state_verdict.ensures) refl c.if-g-block.false
    c.entry_verdict.result (readable_arm c.args.s.phase (opened c.in-Running.in-Running-own.keys1)) c.entry_verdict.ensures

pub returns-in-Cut : goal.returns-in-Cut
returns-in-Cut c =
    phase_refused _ _ _ _ _ _ _ _ _ (rw c.lengths.ensures at c.in_ok-state_verdict.ensures) refl c.if-g-block.false (ap is_readable c.in-Cut.is)
