-- After j places the copy marks them, and the next search starts after the last.
use Prim.Native.Nat.{◌*◌, ◌≤◌, ◌<◌}
use mathlib.Core.Path.{◌≡◌}
use lib.ListN.{length}
use Rattle.tracks.specs.Placing.{track_of, least_delay, place_of, skipped_by}
use Rattle.volume.specs.Tables.{bit_at}
use Rattle.power.specs.Power.{made}
use Rattle.laws.proofs.Filling.{Filled}
use Rattle.searching.specs.Searching.{Known}
use Rattle.placing.proofs.PlaceLaws.{Placed}
use Rattle.placing.proofs.find_places.Given as goal

abbrev pub invariant-loop-j : goal.invariant-loop-j
invariant-loop-j l =
    (l.start < l.n) × (l.first ≡ track_of l.d l.start * l.d.sectors) × (length l.used ≡ length l.initial.used) × (length l.known ≡ length l.initial.known)
    × Known l.known (bit_at l.used) l.n l.d.sectors × Placed l.d l.n (bit_at l.initial.used) l.head l.j (bit_at l.used) l.start
    × Filled (place_of (least_delay l.d) l.n (bit_at l.initial.used) l.head) l.initial.place-items l.j l.place-items
    × (l.total ≡ skipped_by (least_delay l.d) l.n (bit_at l.initial.used) l.head (made l.j l.allowance)) × (l.total ≤ 65791 * l.j)
