-- The part that comes back is the map sector.
use Prim.Native.Nat.{◌+◌, ◌*◌, ◌-◌}
use mathlib.Core.Path.{◌≡◌}
use native.Mathlib.Omega.{arith}
use lib.ListN.{length, length-take, length-drop}
use Rattle.layout.specs.Bounded.{at, updates}
use Rattle.layout.specs.MapSector.{encoded}
use Rattle.volume.specs.Tables.{piece_entries}
use Rattle.laws.proofs.Sectors.{sector_lent}
use Rattle.images.proofs.store_map.Goals as goal

pub put_map-requires : goal.put_map-requires
put_map-requires c = record {
  s_len = simp (length-take, length-drop) (omega arith);
  piece_lt_most_pieces = c.requires.piece_lt_most_pieces;
  branches_len_bound = c.requires.branches_len_bound;
  map_len_bound = c.requires.map_len_bound;
  blocks_in_bounds = c.requires.blocks_in_bounds;
  by_index = c.requires.by_index;
  cursor = c.requires.cursor;
}

pub returns : goal.returns
returns c =
    let written = encoded c.args.l (record {
      number = c.args.number;
      piece = c.args.piece;
      closing = c.args.closing;
      branches = c.args.branches.now;
      entries = piece_entries c.args.l (updates (at c.args.map.now) (at c.args.blocks.now) (at c.args.news.now) (length c.args.blocks.now)) c.args.piece;
    }) in
    let size : 512 * c.args.k + 512 - 512 * c.args.k ≡ 512 = omega arith in
    (c.put_map.ensures.0, sector_lent c.args.image.now c.args.k _ c.put_map.new.s written c.requires.sector_bytes_in_bounds size c.put_map.auto.s c.put_map.ensures.1)
