-- The arrays hold the volume.
use mathlib.Core.Path.{refl}
use native.Mathlib.Omega.{arith}
use Rattle.laws.proofs.Sizes.{fits}
use Rattle.recover.proofs.by_scan.Goals as goal

pub by_scan-requires : goal.by_scan-requires
by_scan-requires c = record {
  n_le_size = c.if-g-le-SMALL.true;
  size_le_most_sectors = omega arith;
  size_value = refl;
  g_value = c.requires.g_value;
  image_len = c.requires.image_len;
  map_len = c.requires.map_len;
  places_len = c.requires.places_len;
  numbers_len = c.requires.numbers_len;
  used_len = c.requires.used_len;
}

pub by_scan-requires-then-g-le-MEDIUM : goal.by_scan-requires-then-g-le-MEDIUM
by_scan-requires-then-g-le-MEDIUM c = record {
  n_le_size = c.if-g-le-MEDIUM.true;
  size_le_most_sectors = omega arith;
  size_value = refl;
  g_value = c.requires.g_value;
  image_len = c.requires.image_len;
  map_len = c.requires.map_len;
  places_len = c.requires.places_len;
  numbers_len = c.requires.numbers_len;
  used_len = c.requires.used_len;
}

pub by_scan-requires-2 : goal.by_scan-requires-2
by_scan-requires-2 c = record {
  n_le_size = (fits c.args.g c.requires.g_value).sectors;
  size_le_most_sectors = omega arith;
  size_value = refl;
  g_value = c.requires.g_value;
  image_len = c.requires.image_len;
  map_len = c.requires.map_len;
  places_len = c.requires.places_len;
  numbers_len = c.requires.numbers_len;
  used_len = c.requires.used_len;
}
