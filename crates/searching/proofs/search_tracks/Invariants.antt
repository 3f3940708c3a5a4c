-- No sector is free at the positions that have passed by, and `at` is under the head now.
use Prim.Native.Nat.{◌+◌, ◌-◌, ◌%◌, ◌≤◌, ◌<◌}
use mathlib.Core.Path.{◌≡◌}
use lib.ListN.{length}
use Rattle.volume.specs.Tables.{bit_at}
use Rattle.searching.specs.Searching.{NoneWithin, Known}
use Rattle.searching.proofs.search_tracks.Given as goal

abbrev pub invariant-loop-skipped : goal.invariant-loop-skipped
invariant-loop-skipped l =
    (l.at ≡ (l.position + l.skipped) % l.size) × (l.at < l.size) × (l.skipped ≤ l.size) × (length l.known ≡ length l.initial.known)
    × NoneWithin (bit_at l.used) l.n l.size l.position l.skipped × Known l.known (bit_at l.used) l.n l.size

abbrev pub decreases-loop-skipped : goal.decreases-loop-skipped
decreases-loop-skipped l = l.size + 1 - l.skipped
