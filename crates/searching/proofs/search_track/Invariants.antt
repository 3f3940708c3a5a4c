-- All that has passed by is used, and k is under the head now.
use Prim.Native.Nat.{◌-◌, ◌≤◌}
use mathlib.Core.Path.{◌≡◌}
use Rattle.volume.specs.Tables.{bit_at}
use Rattle.searching.specs.Searching.{turned, AllPassed}
use Rattle.searching.proofs.search_track.Given as goal

abbrev pub invariant-loop-skipped : goal.invariant-loop-skipped
invariant-loop-skipped l =
    (l.k ≡ turned l.first l.size l.start l.skipped) × (l.skipped ≤ l.steps) × AllPassed (bit_at l.used) l.first l.size l.start l.skipped

abbrev pub decreases-loop-skipped : goal.decreases-loop-skipped
decreases-loop-skipped l = l.steps - l.skipped
