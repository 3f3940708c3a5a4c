-- What is counted at k is the number of free sectors below k, from the last whole word on.
use mathlib.Core.Path.{◌≡◌}
use Rattle.volume.specs.Tables.{bit_at, free_sectors}
use Rattle.bits.proofs.count_free.Given as goal

abbrev pub invariant-loop-k : goal.invariant-loop-k
invariant-loop-k l = l.free ≡ free_sectors l.k (bit_at l.used)
