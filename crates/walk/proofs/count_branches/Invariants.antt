-- The branches below i are counted, 24 a sector at most.
use Prim.Native.Nat.{◌*◌, ◌≤◌}
use mathlib.Core.Path.{◌≡◌}
use Rattle.layout.specs.Bounded.{at}
use Rattle.volume.specs.Tables.{sector_at}
use Rattle.walk.specs.Walking.{branch_word_count}
use Rattle.walk.proofs.count_branches.Given as goal

abbrev pub invariant-loop-place : goal.invariant-loop-place
invariant-loop-place l = (l.count ≡ branch_word_count (sector_at l.image) (at l.places) l.place-index) × (l.count ≤ 24 * l.place-index)
