-- The places below the index are marked.
use Rattle.std.proofs.Common.{◌≡◌, []}
use Rattle.layout.specs.Bounded.{at, always, gathered}
use Rattle.volume.specs.Tables.{bit_at, used_by}
use Rattle.names.proofs.mark_places.Given as goal

abbrev pub invariant-loop-place : goal.invariant-loop-place
invariant-loop-place l = bit_at l.marks ≡ used_by (gathered always (at l.places) [] l.place-index)
