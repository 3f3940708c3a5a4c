-- The loop has made the stores below k, and so many are left; it ends when all were made, or when one is due and none is left.
use Rattle.volume.specs.Tables.{sector_at, bit_at}
use Rattle.volume.specs.Format.{blank_store}
use Rattle.power.proofs.Storing.{Storing}
use Rattle.clear.proofs.clear_each.Given as goal

abbrev pub invariant-loop-k : goal.invariant-loop-k
invariant-loop-k l = Storing (bit_at l.above) blank_store (sector_at l.initial.image) l.allowance l.k l.left (sector_at l.image)
