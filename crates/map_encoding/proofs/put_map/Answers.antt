-- The words are laid in order with a zero for the balance, and the balance takes its place.
use mathlib.Core.Path.{refl, ◌∙◌}
use lib.ListN.{length}
use Rattle.layout.specs.Bounded.{at, updates}
use Rattle.volume.specs.Tables.{piece_entries}
use Rattle.piece_entries.proofs.EntryLaws.{piece_length, piece_words_lem}
use Rattle.map_encoding.proofs.Encoding.{map_stored}
use Rattle.map_encoding.proofs.put_map.Goals as goal

pub put_rest-requires : goal.put_rest-requires
put_rest-requires c =
    let long = c.put_branches.auto.s ∙ c.put_header.auto.s ∙ c.requires.s_len in record {
      s_len = long;
      map_len_bound = c.requires.map_len_bound;
      piece_lt_most_pieces = c.requires.piece_lt_most_pieces;
      blocks_in_bounds = c.requires.blocks_in_bounds;
      by_index = c.requires.by_index;
      cursor = c.requires.cursor;
    }

pub returns : goal.returns
returns c =
    let changed = updates (at c.args.map.now) (at c.args.blocks.now) (at c.args.news.now) (length c.args.blocks.now) in
    let words = piece_words_lem c.args.l c.args.piece (length c.args.blocks.now) c.args.map.now c.args.blocks.now c.args.news.now
    (λ i. (c.type_inv.map i).fits) (λ i. (c.type_inv.news i).fits) in (
      c.put_rest.ensures.0,
      map_stored c.args.l c.args.number c.args.piece c.args.closing c.args.branches.now (piece_entries c.args.l changed c.args.piece) c.requires.branches_len_bound
          (piece_length c.args.l c.args.piece changed) c.args.s.now _ _ _ _ c.requires.s_len
          c.ranges.l.fits c.ranges.number.fits c.ranges.piece.fits (λ i. (c.type_inv.branches i).fits) words
          c.put_header.ensures c.put_branches.ensures refl c.put_rest.ensures.1,
    )
