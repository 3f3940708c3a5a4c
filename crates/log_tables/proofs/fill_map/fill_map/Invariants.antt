-- The pieces below p are filled in.
use Prim.Native.Nat.{◌*◌, ◌≤◌, ◌<◌}
use mathlib.Core.Path.{◌≡◌}
use lib.ListN.{length}
use Rattle.laws.proofs.Filling.{Filled}
use Rattle.log_tables.proofs.MapLaws.{entry_of}
use Rattle.log_tables.proofs.fill_map.fill_map.Given as goal

abbrev pub invariant-loop-place : goal.invariant-loop-place
invariant-loop-place l =
    (l.first ≤ length l.initial.map) × (l.first ≤ 96 * l.place-index) × (l.first < length l.initial.map → l.first ≡ 96 * l.place-index)
    × Filled (entry_of l.image l.places) l.initial.map l.first l.map
