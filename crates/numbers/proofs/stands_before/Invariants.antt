-- So far it was found or not.
use mathlib.Core.Path.{◌≡◌}
use mathlib.Core.List.{[]}
use Rattle.layout.specs.Bounded.{at, elem, always, gathered}
use Rattle.numbers.proofs.stands_before.Given as goal

abbrev pub invariant-loop-other : goal.invariant-loop-other
invariant-loop-other l = l.found ≡ elem (at l.numbers l.i) (gathered always (at l.numbers) [] l.other-index)
