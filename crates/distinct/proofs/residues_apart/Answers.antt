-- The residues met so far are marked, and no two agree.
use mathlib.Core.Bool.{true}
use Rattle.volume.specs.Tables.{bit_at}
use Rattle.distinct.proofs.Equal.{residues_distinct}
use Rattle.distinct.proofs.residues_apart.Goals as goal

pub returns : goal.returns
returns g c =
    λ _. residues_distinct true g.row.M _ (bit_at c.loop-x.seen) c.loop-x.x-index c.loop-x.invariant.1 c.loop-x-test.false
