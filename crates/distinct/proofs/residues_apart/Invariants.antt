-- The residues met so far are marked, and no two agree.
use mathlib.Core.Path.{◌≡◌}
use mathlib.Core.Bool.{true}
use lib.ListN.{length}
use Rattle.volume.specs.Tables.{bit_at}
use Rattle.distinct.proofs.Equal.{Residues}
use Rattle.distinct.proofs.residues_apart.Given as goal

abbrev pub invariant-loop-x : goal.invariant-loop-x
invariant-loop-x g l = (length l.seen ≡ g.row.MAP) × Residues true g.row.M l.xs (bit_at l.seen) l.x-index
