-- What is left is the total less the counts that were passed.
use Prim.Native.Nat.{◌+◌, ◌*◌}
use mathlib.Core.Path.{◌≡◌}
use Rattle.layout.specs.Bounded.{at, sum_below}
use Rattle.batch_checks.proofs.adds_up.Given as goal

abbrev pub invariant-loop-i : goal.invariant-loop-i
invariant-loop-i l = sum_below (λ j. at l.words (4 * j + l.place)) l.i + l.left ≡ l.total
