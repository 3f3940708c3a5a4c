-- What is read from i on, from where the loop is, is what is read from the start.
use mathlib.Core.Path.{◌≡◌}
use lib.ListN.{length}
use Rattle.volume.specs.Tables.{sector_at}
use Rattle.geometry.specs.Geometry.{pieces_for}
use Rattle.volume.specs.Recover.{image_view}
use Rattle.targets.specs.Waiting.{walk_of, Waits}
use Rattle.targets.proofs.TargetLaws.{Held, Reading}
use Rattle.targets.proofs.read_targets.Given as goal

abbrev pub invariant-loop-i : goal.invariant-loop-i
invariant-loop-i l =
    (length l.waiting ≡ length l.initial.waiting) × (length l.tree ≡ length l.initial.tree) × Held l.g l.image l.k l.s l.holder l.count
    × Waits (pieces_for l.g.l) (image_view l.g (sector_at l.image)) l.waiting l.tree l.taken × Reading l.g l.image l.k (walk_of l.initial.waiting l.taken) (walk_of l.waiting l.taken) l.i
