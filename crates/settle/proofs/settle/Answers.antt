-- Freed, marked and changed, the tables are those of the definition.
use mathlib.Core.Path.{◌∙◌, ap}
use lib.ListN.{length}
use Rattle.settle.proofs.UsedLaws.{used_needs, map_needs, live_needs, settled}
use Rattle.settle.proofs.settle.Goals as goal

pub change_used-requires : goal.change_used-requires
change_used-requires c = let whole = used_needs _ _ _ c.args.t.now.map.now c.args.t.now.places.now c.args.t.now.numbers.now c.args.t.now.used.now _ _ _ _ _ c.requires.geometry_value c.requires.map_len c.requires.places_len c.requires.used_len c.requires.number_value c.requires.settling in record {
  by_index = whole.0;
  by_index_2 = whole.1.0;
  places_in_bounds = whole.1.1.0;
  by_index_3 = whole.1.1.1.0;
  by_index_4 = whole.1.1.1.1;
}

pub change_map-requires : goal.change_map-requires
change_map-requires c = let whole = map_needs _ _ _ _ _ _ _ c.requires.settling _ (ap length c.change_used.ensures.map ∙ c.requires.map_len) in record {
  blocks_in_bounds = whole.0;
  by_index = whole.1;
}

pub change_live-requires : goal.change_live-requires
change_live-requires c = let whole = live_needs _ _ _ _ _ _ _ c.requires.settling _ _ (ap length c.change_used.ensures.places ∙ c.requires.places_len) (ap length c.change_used.ensures.numbers ∙ c.requires.numbers_len) in record {
  places_len = whole.0;
  places_in_bounds = whole.1.0;
  by_index = whole.1.1.0;
  places_in_bounds_2 = whole.1.1.1.0;
  places_bound = whole.1.1.1.1;
}

pub returns-clause-value : goal.returns-clause-value
returns-clause-value c =
    settled c.args.s c.args.t.now.map.now c.args.t.now.places.now c.args.t.now.numbers.now c.args.t.now.used.now _ _ _ _ _
    c.requires.geometry_value c.requires.places_len c.requires.used_len c.requires.number_value c.requires.settling _ _ _ _
    (rw c.change_used.ensures.map at c.change_map.ensures) (rw c.change_used.ensures.places at c.change_live.ensures.0) (rw c.change_used.ensures.numbers at c.change_live.ensures.1) c.change_used.ensures.used
