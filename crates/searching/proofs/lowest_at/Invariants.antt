-- Every sector at the position below k is used, and k is there on its track.
use Prim.Native.Nat.{◌+◌, ◌*◌, ◌-◌}
use mathlib.Core.Path.{◌≡◌}
use Rattle.volume.specs.Tables.{bit_at}
use Rattle.searching.specs.Searching.{UsedAt}
use Rattle.searching.proofs.lowest_at.Given as goal

abbrev pub invariant-loop-k : goal.invariant-loop-k
invariant-loop-k l = (l.k ≡ l.position + l.track * l.size) × UsedAt (bit_at l.used) l.size l.position l.k

abbrev pub decreases-loop-k : goal.decreases-loop-k
decreases-loop-k l = l.n - l.k
