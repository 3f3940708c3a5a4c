-- As many as one piece holds, or as are left.
use mathlib.Core.Path.{refl, ◌∙◌, ap}
use native.Mathlib.Omega.{arith}
use lib.ListN.{length}
use Rattle.laws.proofs.Sectors.{sector_length}
use Rattle.log_tables.proofs.MapLaws.{piece_filled}
use Rattle.log_tables.proofs.fill_map.fill_next.Goals as goal

pub fill_piece-requires : goal.fill_piece-requires
fill_piece-requires c =
    let least = c.min-count.ensures in record {
      s_len = ap length c.sector-s.ensures ∙ sector_length _ _ c.requires.sector_bytes_in_bounds;
      count_le_entries_per_piece = omega arith;
      count_in_bounds = omega arith;
    }

pub returns : goal.returns
returns c =
    piece_filled _ _ _ _ _ _ _ _ refl c.requires.first_in_bounds c.min-count.ensures c.sector-s.ensures c.fill_piece.ensures
