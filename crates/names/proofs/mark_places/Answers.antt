-- The places below the index are marked.
use Rattle.std.proofs.Common.{length}
use Rattle.layout.specs.Bounded.{at}
use Rattle.names.proofs.Marking.{places_start, place_marked, zeros_marked}
use Rattle.names.proofs.mark_places.Goals as goal

pub loop-place-init : goal.loop-place-init
loop-place-init c =
    places_start (at c.args.places.now) _ (zeros_marked _ c.args.marks.now (length c.args.marks.now) c.requires.marks_value c.set_bit.ensures)

pub loop-place-preserved : goal.loop-place-preserved
loop-place-preserved c =
    place_marked (at c.args.places.now) c.loop-place.place-index _ _ c.loop-place.invariant c.set_bit-in-loop-place.ensures
