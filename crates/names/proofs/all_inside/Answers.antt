-- Places and entries together are the names.
use Rattle.std.proofs.Common.{length}
use Rattle.layout.specs.Bounded.{at}
use Rattle.names.proofs.Marking.{places_outside, all_judged}
use Rattle.names.proofs.all_inside.Goals as goal

pub returns-then-places_inside-places : goal.returns-then-places_inside-places
returns-then-places_inside-places c =
    places_outside c.args.g (at c.args.map.now) (at c.args.places.now) _ (length c.args.map.now) c.requires.places_len c.requires.map_len c.places_inside.result c.places_inside.ensures c.if-places_inside-places.true

pub returns : goal.returns
returns c =
    all_judged c.args.g (at c.args.map.now) (at c.args.places.now) _ _ c.requires.places_len c.requires.map_len c.places_inside.result c.places_inside.ensures c.if-places_inside-places.false c.args.entries c.count_empty.result c.requires.entries_value c.count_empty.ensures.0
