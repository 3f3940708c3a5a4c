-- Those below the index are distinct, and their residues are marked.
use Prim.Native.Nat.{ℕ}
use mathlib.Core.Path.{◌≡◌, refl, subst}
use mathlib.Core.Bool.{true}
use mathlib.Core.List.{[]}
use native.Mathlib.Nat.{not-suc-le-zero}
use native.Mathlib.Omega.{arith}
use lib.ListN.{length}
use Rattle.layout.specs.Bounded.{at, distinct, always, gathered}
use Rattle.numbers.proofs.Numbering.{distinct_none, residues_more}
use Rattle.numbers.proofs.residues_distinct.Goals as goal

pub loop-number-init : goal.loop-number-init
loop-number-init c = (distinct_none (at c.args.numbers.now), λ j h. absurd (not-suc-le-zero h))

pub loop-number-preserved : goal.loop-number-preserved
loop-number-preserved c =
    residues_more (at c.args.numbers.now) _ _ c.loop-number.number-index c.loop-number.invariant _ refl c.is_set.result c.is_set.ensures c.if-is_set.false c.set_bit.ensures

pub returns : goal.returns
returns c =
    let e : c.loop-number.number-index ≡ length c.args.numbers.now = omega arith in
    λ (z : true ≡ true). subst (λ (x : ℕ). distinct (gathered always (at c.args.numbers.now) [] x) ≡ true) e c.loop-number.invariant.0
