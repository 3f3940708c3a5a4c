-- The residues met so far are marked, and no two agree.
use Prim.Native.Nat.{ℕ}
use mathlib.Core.Bool.{true, false}
use lib.ListN.{get_or}
use Rattle.distinct.proofs.Equal.{residues_distinct}
use Rattle.distinct.proofs.bytes_apart.Goals as goal

pub returns : goal.returns
returns c =
    λ _. residues_distinct true 65536 _ (λ (k : ℕ). get_or c.loop-x.seen k false) c.loop-x.x-index c.loop-x.invariant.1 c.loop-x-test.false
