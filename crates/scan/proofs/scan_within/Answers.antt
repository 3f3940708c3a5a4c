-- The arrays hold the volume.
use mathlib.Core.Path.{refl}
use Prim.Native.Nat.{ℕ}
use lib.ListN.{length-replicate}
use Rattle.scan.proofs.scan_within.Goals as goal

pub scan_in-requires : goal.scan_in-requires
scan_in-requires g c = record {
  g_value = c.requires.g_value;
  image_len = c.requires.image_len;
  n_in_bounds = rw (length-replicate {A = ℕ}) c.requires.n_le_size;
  sectors_len_bound = rw (length-replicate {A = ℕ}) c.requires.size_le_most_sectors;
  numbered_len = refl;
  pieces_len = refl;
  sized = c.requires.sized;
  n_bound = c.requires.n_bound;
  above_value = c.requires.above_value;
}
