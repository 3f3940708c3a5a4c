-- The lengths decide, or the block numbers, or how the volume stands.
use native.Mathlib.Omega.{arith}
use Rattle.std.proofs.lemmas.Result.{err_from_is_err_and}
use Rattle.verdict.proofs.CommitChecks.{lengths_refused, state_passed, lengths_passed, blocks_refused, few_blocks, standing_decides}
use mathlib.Core.Path.{refl, ap}
use mathlib.Core.Bool.{not}
use Rattle.verdict.proofs.commit_verdict.Goals as goal

pub returns-then-not-blocks_fit : goal.returns-then-not-blocks_fit
returns-then-not-blocks_fit c =
    blocks_refused _ _ _ _ _ _ _ _ _ _ _ (rw c.lengths.ensures at c.in_ok-state_verdict.ensures) refl
    c.blocks_fit.result c.blocks_fit.ensures (ap not c.if-not-blocks_fit.true)

pub standing_verdict-requires : goal.standing_verdict-requires
standing_verdict-requires c =
    let few = few_blocks c.args.s c.args.image.now c.args.t.now.map.now c.args.t.now.places.now c.args.t.now.numbers.now c.args.t.now.used.now c.args.head c.args.blocks.now c.args.fit c.args.count _ (rw c.lengths.ensures at c.in_ok-state_verdict.ensures) refl
    c.blocks_fit.result c.blocks_fit.ensures (ap not c.if-not-blocks_fit.false) in record {
      used_value = state_passed _ _ _ _ _ _ c.args.head c.args.blocks.now _ c.args.count _ (rw c.lengths.ensures at c.in_ok-state_verdict.ensures) refl;
      geometry_value = lengths_passed _ _ _ _ _ _ c.args.head c.args.blocks.now _ c.args.count _ (rw c.lengths.ensures at c.in_ok-state_verdict.ensures) refl;
      count_le_commit_blocks = omega arith;
      known_agreed = c.requires.known_agreed;
    }

pub returns-in_err-state_verdict : goal.returns-in_err-state_verdict
returns-in_err-state_verdict c =
    let p = err_from_is_err_and c.from_residual.result c.from_residual.ensures.1 in
    rw (p.1, p.2) (lengths_refused _ _ _ _ _ _ _ _ _ _ _ (rw c.lengths.ensures at c.in_err-state_verdict.ensures) _ refl)

pub returns : goal.returns
returns c =
    standing_decides _ _ _ _ _ _ _ _ _ _ _ (rw c.lengths.ensures at c.in_ok-state_verdict.ensures) refl
    c.blocks_fit.result c.blocks_fit.ensures (ap not c.if-not-blocks_fit.false) c.standing_verdict.result c.standing_verdict.ensures
