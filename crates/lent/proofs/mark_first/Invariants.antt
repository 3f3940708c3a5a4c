-- The sectors below k are marked.
use mathlib.Core.Path.{◌≡◌}
use lib.Dec.{ltb}
use Rattle.volume.specs.Tables.{bit_at}
use Rattle.lent.proofs.mark_first.Given as goal

abbrev pub invariant-loop-k : goal.invariant-loop-k
invariant-loop-k l = bit_at l.used ≡ (λ j. ltb j l.k)
