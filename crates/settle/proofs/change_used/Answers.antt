-- Each step starts from the bits that the one before it left.
use mathlib.Core.Path.{◌∙◌}
use Rattle.settle.proofs.UsedLaws.{used_steps, bits_kept}
use Rattle.settle.proofs.change_used.Goals as goal

pub free_places-requires : goal.free_places-requires
free_places-requires c = record {
  places_in_bounds = c.requires.places_in_bounds;
  by_index = bits_kept _ _ _ _ c.free_blocks.auto.used c.requires.by_index_3;
}

pub use_places-requires : goal.use_places-requires
use_places-requires c =
    bits_kept _ _ _ _ (c.free_places.auto.used ∙ c.free_blocks.auto.used) c.requires.by_index_4

pub returns-clause-used : goal.returns-clause-used
returns-clause-used c =
    used_steps _ _ _ _ _ _ _ _ _ _ _ _ c.free_blocks.ensures c.free_places.ensures c.use_places.ensures
