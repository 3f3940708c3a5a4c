-- The walk is that of so many steps.
use Prim.Native.Nat.{◌*◌, ◌<◌}
use mathlib.Core.Path.{◌≡◌}
use lib.ListN.{length}
use Rattle.geometry.specs.Geometry.{sector_bytes, pieces_for}
use Rattle.volume.specs.Tables.{sector_at}
use Rattle.volume.specs.Recover.{image_view, walked_for}
use Rattle.targets.specs.Waiting.{walk_of, Waits}
use Rattle.walk_steps.proofs.walk_steps.Given as goal

abbrev pub invariant-loop-step : goal.invariant-loop-step
invariant-loop-step l =
    (length l.waiting ≡ length l.initial.waiting) × (length l.tree ≡ length l.initial.tree) × (length l.taken ≡ length l.initial.taken)
    × (length l.image ≡ sector_bytes * l.g.n) × (0 < pieces_for l.g.l) × (l._step-end ≡ pieces_for l.g.l)
    × Waits (pieces_for l.g.l) (image_view l.g (sector_at l.image)) l.waiting l.tree l.taken
    × (walk_of l.waiting l.taken ≡ walked_for (pieces_for l.g.l) (image_view l.g (sector_at l.image)) (walk_of l.initial.waiting l.initial.taken) l._step)
