-- The loop has made the stores below p, and so many are left; it ends when all were made, or when none is left.
use Rattle.layout.specs.Bounded.{always}
use Rattle.volume.specs.Tables.{sector_at}
use Rattle.volume.specs.Format.{piece_store}
use Rattle.power.proofs.Storing.{Storing}
use Rattle.fresh.proofs.store_pieces.Given as goal

abbrev pub invariant-loop-p : goal.invariant-loop-p
invariant-loop-p l = Storing always (piece_store l.l) (sector_at l.initial.image) l.allowance l.p l.left (sector_at l.image)
