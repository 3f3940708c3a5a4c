-- The loop has made the members of the pieces below p; the next one's rank is j, and its blocks stand from `from` on.
use mathlib.Core.Path.{◌≡◌}
use Rattle.layout.specs.Bounded.{count_below}
use Rattle.volume.specs.Tables.{sector_at}
use Rattle.power.proofs.Storing.{Storing}
use Rattle.pieces.specs.Arrays.{flagged}
use Rattle.piece_entries.specs.Cursor.{Cursor}
use Rattle.store.proofs.StoreLaws.{stores}
use Rattle.store.proofs.store_members.Given as goal

abbrev pub invariant-loop-p : goal.invariant-loop-p
invariant-loop-p l =
    (l.j ≡ count_below (flagged l.written) l.p) × Cursor l.blocks l.p l.from × Storing (flagged l.written)
    (stores l.s l.map l.blocks l.news l.taken l.branches l.written l.count l.members) (sector_at l.initial.image) l.allowance l.p l.left (sector_at l.image)
