-- The residues met so far are marked, and no two agree.
use Prim.Native.Nat.{ℕ}
use mathlib.Core.Path.{◌≡◌}
use mathlib.Core.Bool.{true, false}
use lib.ListN.{length, get_or}
use Rattle.distinct.proofs.Equal.{Residues}
use Rattle.distinct.proofs.bytes_apart.Given as goal

abbrev pub invariant-loop-x : goal.invariant-loop-x
invariant-loop-x l = (length l.seen ≡ 65536) × Residues true 65536 l.xs (λ (k : ℕ). get_or l.seen k false) l.x-index
