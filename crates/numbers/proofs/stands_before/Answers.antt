-- So far it was found or not.
use Prim.Native.Nat.{ℕ, ◌<◌}
use mathlib.Core.Path.{◌≡◌, sym, ◌∙◌, ap}
use mathlib.Core.Bool.{◌||◌}
use mathlib.Core.List.{[]}
use native.Mathlib.Omega.{arith}
use lib.Dec.{eqb}
use Rattle.std.proofs.lemmas.List.{get_or-take, length-take-le}
use Rattle.layout.specs.Bounded.{at, elem, always, gathered}
use Rattle.numbers.proofs.Numbering.{elem_none, elem_next}
use Rattle.numbers.proofs.stands_before.Goals as goal

pub loop-other-init : goal.loop-other-init
loop-other-init c = sym (elem_none (at c.args.numbers.now) (at c.args.numbers.now c.args.i))

pub loop-other-preserved : goal.loop-other-preserved
loop-other-preserved c =
    let size = length-take-le c.args.i c.args.numbers.now (omega arith) in
    let here : c.loop-other.other-index < c.args.i = omega arith in
    elem_next (at c.args.numbers.now) (at c.args.numbers.now c.args.i) c.loop-other.other-index c.loop-other.found _ c.loop-other.invariant
    (ap (λ (x : ℕ). c.loop-other.found || eqb (at c.args.numbers.now c.args.i) x) (get_or-take c.args.i c.args.numbers.now c.loop-other.other-index 0 here))

pub returns : goal.returns
returns c =
    let size = length-take-le c.args.i c.args.numbers.now (omega arith) in
    let e : c.loop-other.other-index ≡ c.args.i = omega arith in
    c.loop-other.invariant ∙ ap (λ (x : ℕ). elem (at c.args.numbers.now c.args.i) (gathered always (at c.args.numbers.now) [] x)) e
