-- What is found at i is the best of those below i.
use mathlib.Core.Path.{◌≡◌, ◌∙◌, ap}
use native.Mathlib.Omega.{arith}
use lib.ListN.{length}
use Rattle.layout.specs.Bounded.{at, best}
use Rattle.numbers.proofs.Numbering.{best_zero, best_new, best_stays}
use Rattle.numbers.proofs.newest.Goals.{then-numbers-found, else-numbers-found}
use Rattle.numbers.proofs.newest.Goals as goal

pub loop-i-init : goal.loop-i-init
loop-i-init c = (c.requires, best_zero (at c.args.numbers.now))

pub loop-i-preserved : goal.loop-i-preserved
loop-i-preserved c =
    let num = at c.args.numbers.now in
    elim c.if-numbers-found.branch [
      | then-numbers-found w ↦ (omega arith, w.found-is ∙ best_new num c.loop-i.i c.loop-i.found c.loop-i.invariant.1 w.if-numbers-found.true)
      | else-numbers-found w ↦ (omega arith, w.found-is ∙ best_stays num c.loop-i.i c.loop-i.found c.loop-i.invariant.1 w.if-numbers-found.false)
    ]

pub returns : goal.returns
returns c =
    let e : c.loop-i.i ≡ length c.args.numbers.now = omega arith in
    c.loop-i.invariant.1 ∙ ap (best (at c.args.numbers.now)) e
