-- Those below i are distinct; one that stands below itself decides.
use Prim.Native.Nat.{ℕ}
use mathlib.Core.Path.{◌≡◌, sym, ◌∙◌, subst}
use mathlib.Core.Bool.{true}
use mathlib.Core.List.{[]}
use native.Mathlib.Omega.{arith}
use lib.ListN.{length}
use Rattle.layout.specs.Bounded.{at, distinct, always, gathered}
use Rattle.numbers.proofs.Numbering.{distinct_none, distinct_more, distinct_not}
use Rattle.numbers.proofs.pairs_distinct.Goals as goal

pub loop-i-init : goal.loop-i-init
loop-i-init c = distinct_none (at c.args.numbers.now)

pub returns-then-stands_before : goal.returns-then-stands_before
returns-then-stands_before c =
    distinct_not (at c.args.numbers.now) c.loop-i.i (length c.args.numbers.now) (omega arith) (sym c.stands_before.ensures ∙ c.if-stands_before.true)

pub loop-i-preserved : goal.loop-i-preserved
loop-i-preserved c =
    distinct_more (at c.args.numbers.now) c.loop-i.i c.loop-i.invariant (sym c.stands_before.ensures ∙ c.if-stands_before.false)

pub returns : goal.returns
returns c =
    let e : c.loop-i.i ≡ length c.args.numbers.now = omega arith in
    sym (subst (λ (x : ℕ). distinct (gathered always (at c.args.numbers.now) [] x) ≡ true) e c.loop-i.invariant)
