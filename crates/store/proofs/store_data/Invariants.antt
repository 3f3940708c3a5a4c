-- The loop has made the stores below i, and so many are left.
use Rattle.layout.specs.Bounded.{always}
use Rattle.volume.specs.Tables.{sector_at}
use Rattle.power.proofs.Storing.{Storing}
use Rattle.pieces.specs.Arrays.{block_store}
use Rattle.store.proofs.store_data.Given as goal

abbrev pub invariant-loop-i : goal.invariant-loop-i
invariant-loop-i l = Storing always (block_store l.taken l.bytes) (sector_at l.initial.image) l.allowance l.i l.left (sector_at l.image)
