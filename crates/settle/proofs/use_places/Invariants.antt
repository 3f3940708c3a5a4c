-- The sectors so far are marked.
use mathlib.Core.Path.{◌≡◌}
use Rattle.volume.specs.Tables.{bit_at}
use Rattle.settle.proofs.SettleLaws.{marking}
use Rattle.settle.proofs.use_places.Given as goal

abbrev pub invariant-loop-k : goal.invariant-loop-k
invariant-loop-k l = bit_at l.used ≡ marking (bit_at l.initial.used) l.taken l.k-index
