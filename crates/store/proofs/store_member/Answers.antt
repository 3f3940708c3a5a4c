-- The member as the definition has it.
use Prim.Native.Nat.{◌+◌}
use mathlib.Core.Path.{◌∙◌, ap}
use native.Mathlib.Omega.{arith}
use lib.ListN.{length}
use Rattle.layout.specs.Bounded.{at, updated, updates}
use Rattle.volume.specs.Tables.{sector_at, piece_entries}
use Rattle.store.proofs.StoreLaws.{listed_member, few_listed}
use Rattle.store.proofs.store_member.Goals as goal

pub overflow_cast-k : goal.overflow_cast-k
overflow_cast-k c =
    let k = c.requires.by_index_2 (c.args.count + c.args.j) (omega arith) in
    omega arith

pub store_map-requires : goal.store_map-requires
store_map-requires c =
    let k = c.requires.by_index_2 (c.args.count + c.args.j) (omega arith) in record {
      sector_bytes_in_bounds = omega arith;
      piece_lt_most_pieces = c.requires.p_lt_most_pieces;
      branches_len_bound = few_listed _ _ _ _ c.requires.branches_len_bound c.branches_of-listed.ensures;
      map_len_bound = omega arith;
      blocks_in_bounds = c.requires.blocks_in_bounds;
      by_index = c.requires.by_index;
      cursor = c.requires.cursor;
    }

pub returns : goal.returns
returns c =
    let entries = piece_entries c.args.s.geometry.l (updates (at c.args.map.now) (at c.args.blocks.now) (at c.args.news.now) (length c.args.blocks.now)) c.args.p in (
      c.store_map.ensures.0,
      c.store_map.ensures.1 ∙ ap (updated (sector_at c.args.image.now) (at c.args.taken.now (c.args.count + c.args.j)))
          (listed_member c.args.s.geometry.l c.args.s.number c.args.p c.args.members c.args.j c.args.count c.args.branches.now c.args.taken.now entries _ c.branches_of-listed.ensures),
    )
