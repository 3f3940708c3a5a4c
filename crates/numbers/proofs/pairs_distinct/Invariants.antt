-- Those below i are distinct; one that stands below itself decides.
use mathlib.Core.Path.{◌≡◌}
use mathlib.Core.Bool.{true}
use mathlib.Core.List.{[]}
use Rattle.layout.specs.Bounded.{at, distinct, always, gathered}
use Rattle.numbers.proofs.pairs_distinct.Given as goal

abbrev pub invariant-loop-i : goal.invariant-loop-i
invariant-loop-i l = distinct (gathered always (at l.numbers) [] l.i) ≡ true
