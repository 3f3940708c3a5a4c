-- What is found at i is the best of those below i.
use Prim.Native.Nat.{◌<◌}
use mathlib.Core.Path.{◌≡◌}
use lib.ListN.{length}
use Rattle.layout.specs.Bounded.{at, best}
use Rattle.numbers.proofs.newest.Given as goal

abbrev pub invariant-loop-i : goal.invariant-loop-i
invariant-loop-i l = (l.found < length l.numbers) × (l.found ≡ best (at l.numbers) l.i)
