-- The class that is chosen holds the volume.
use native.Mathlib.Omega.{arith}
use Rattle.laws.proofs.Sizes.{fits}
use Rattle.scan.proofs.scan.Goals as goal

pub scan_within-requires : goal.scan_within-requires
scan_within-requires c = record {
  n_le_size = c.if-g-le-MEDIUM.true;
  size_le_most_sectors = omega arith;
  g_value = c.requires.g_value;
  image_len = c.requires.image_len;
  sized = c.requires.sized;
  n_bound = c.requires.n_bound;
  above_value = c.requires.above_value;
}

pub scan_within-requires-2 : goal.scan_within-requires-2
scan_within-requires-2 c = record {
  n_le_size = (fits c.args.g c.requires.g_value).sectors;
  size_le_most_sectors = omega arith;
  g_value = c.requires.g_value;
  image_len = c.requires.image_len;
  sized = c.requires.sized;
  n_bound = c.requires.n_bound;
  above_value = c.requires.above_value;
}
