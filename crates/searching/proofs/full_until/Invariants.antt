-- The positions before k are known to be full.
use Prim.Native.Nat.{ℕ, ◌≤◌, ◌<◌}
use mathlib.Core.Path.{◌≡◌}
use Rattle.layout.specs.Bounded.{at}
use Rattle.searching.specs.Searching.{all_tracks}
use Rattle.searching.proofs.full_until.Given as goal

abbrev pub invariant-loop-k : goal.invariant-loop-k
invariant-loop-k l = (j : ℕ) → l.position ≤ j → j < l.k → at l.known j ≡ all_tracks
