-- The sectors below k are listed, and the newest closing one of them is known.
use Prim.Native.Nat.{ℕ}
use mathlib.Core.Path.{◌≡◌, refl, sym, ◌∙◌, ap}
use mathlib.Core.Bool.{false}
use mathlib.Core.Option.{none}
use native.Mathlib.Omega.{arith}
use borrow.Author.Tests.{not-true, not-false}
use lib.ListN.{length}
use Rattle.volume.specs.Tables.{sector_at}
use Rattle.volume.specs.Recover.{image_view, closing_number}
use Rattle.laws.proofs.Sectors.{sector_length}
use Rattle.map_sector.proofs.Maps.{valid_unmarked}
use Rattle.signed.proofs.Listing.{listing_none, listing_skips, listing_room, listing_lists, listing_ends}
use Rattle.signed.proofs.Newest.{newest_none, newest_more, newest_same}
use Rattle.signed.proofs.ViewLaws.{valid_view, invalid_view, valid_piece, valid_number, no_closing, is_newest, is_closed}
use Rattle.signed.proofs.read_signed.Goals.{then-highest-number, else-highest-number}
use mathlib.Core.Bool.{not}
use Rattle.signed.proofs.read_signed.Goals as goal

pub sectors-init : goal.sectors-init
sectors-init c =
    let view = image_view c.args.g (sector_at c.args.image.now) in
    (listing_none view _ c.args.sectors.now c.args.numbers.now c.args.pieces.now refl c.requires.numbers_len c.requires.pieces_len, newest_none (λ j. closing_number (view j)))

pub sectors-preserved-then-not-has_mark : goal.sectors-preserved-then-not-has_mark
sectors-preserved-then-not-has_mark c =
    let view = image_view c.args.g (sector_at c.args.image.now) in
    let unsigned : view c.sectors.k ≡ none =
    invalid_view c.args.g _ c.sectors.k (omega arith) _ c.sector-s.ensures false (valid_unmarked _ _ _ c.has_mark.result c.has_mark.ensures (ap not c.if-not-has_mark.true)) refl in (
      listing_skips view _ c.sectors.sectors c.sectors.numbers c.sectors.pieces c.sectors.from c.sectors.k c.sectors.invariant.0 unsigned,
      newest_same (λ j. closing_number (view j)) c.sectors.k c.sectors.tail c.sectors.highest 0 _ _ c.sectors.invariant.1 (no_closing (view c.sectors.k) unsigned) (omega arith) refl refl,
    )

pub marked_valid-requires : goal.marked_valid-requires
marked_valid-requires c = record {
  s_len = ap length c.sector-s.ensures ∙ sector_length _ c.sectors.k (omega arith);
  le_n = c.requires.le_n;
  s_value = sym c.has_mark.ensures ∙ not-false c.has_mark.result (ap not c.if-not-has_mark.false);
}

pub sectors-preserved-then-not-marked_valid : goal.sectors-preserved-then-not-marked_valid
sectors-preserved-then-not-marked_valid c =
    let view = image_view c.args.g (sector_at c.args.image.now) in
    let unsigned : view c.sectors.k ≡ none = invalid_view c.args.g _ c.sectors.k (omega arith) _ c.sector-s.ensures c.marked_valid.result c.marked_valid.ensures (not-true c.marked_valid.result (ap not c.if-not-marked_valid.true)) in (
      listing_skips view _ c.sectors.sectors c.sectors.numbers c.sectors.pieces c.sectors.from c.sectors.k c.sectors.invariant.0 unsigned,
      newest_same (λ j. closing_number (view j)) c.sectors.k c.sectors.tail c.sectors.highest 0 _ _ c.sectors.invariant.1 (no_closing (view c.sectors.k) unsigned) (omega arith) refl refl,
    )

pub overflow_sub-from : goal.overflow_sub-from
overflow_sub-from c =
    let pos = listing_room (image_view c.args.g (sector_at c.args.image.now)) _ c.sectors.sectors c.sectors.numbers c.sectors.pieces c.sectors.from c.sectors.k c.sectors.invariant.0 (omega arith) in
    omega arith

pub list-requires : goal.list-requires
list-requires c =
    let pos = listing_room (image_view c.args.g (sector_at c.args.image.now)) _ c.sectors.sectors c.sectors.numbers c.sectors.pieces c.sectors.from c.sectors.k c.sectors.invariant.0 (omega arith) in
    let inside = valid_piece c.args.g (sector_at c.args.image.now) _ (sym c.marked_valid.ensures ∙ not-false c.marked_valid.result (ap not c.if-not-marked_valid.false)) in record {
      s_len = ap length c.sector-s.ensures ∙ sector_length _ c.sectors.k (omega arith);
      k_lt_most_sectors = omega arith;
      s_bound = omega arith;
      i_in_bounds = omega arith;
      i_in_bounds_2 = omega arith;
      i_in_bounds_3 = omega arith;
    }

pub closing_number-number-requires : goal.closing_number-number-requires
closing_number-number-requires c =
    ap length c.sector-s.ensures ∙ sector_length _ c.sectors.k (omega arith)

pub sectors-preserved : goal.sectors-preserved
unfolding closing_number
sectors-preserved c =
    let view = image_view c.args.g (sector_at c.args.image.now) in
    let key : ℕ → ℕ = λ j. closing_number (view j) in
    let sure = not-false c.marked_valid.result (ap not c.if-not-marked_valid.false) in
    let seen = valid_view c.args.g _ c.sectors.k (omega arith) _ c.sector-s.ensures c.marked_valid.result c.marked_valid.ensures sure in
    let own = c.closing_number-number.ensures ∙ sym (ap closing_number seen) in (
      listing_lists view _ c.sectors.sectors c.sectors.numbers c.sectors.pieces c.sectors.from c.sectors.k c.sectors.invariant.0 _ seen
          (valid_number c.args.g (sector_at c.args.image.now) _ (sym c.marked_valid.ensures ∙ sure)) (omega arith) _ _ _ c.list.ensures.0 c.list.ensures.1 c.list.ensures.2,
      elim c.if-highest-number.branch [
        | then-highest-number w ↦
            newest_more key c.sectors.k c.sectors.tail c.sectors.highest c.closing_number-number.result _ _ c.sectors.invariant.1 own w.if-highest-number.true w.tail-is w.highest-is
        | else-highest-number w ↦
            newest_same key c.sectors.k c.sectors.tail c.sectors.highest c.closing_number-number.result _ _ c.sectors.invariant.1 own w.if-highest-number.false w.tail-is w.highest-is
      ],
    )

pub shape_of-sectors : goal.shape_of-sectors
shape_of-sectors c =
    c.sectors.invariant.0.long

pub shape_of-numbers : goal.shape_of-numbers
shape_of-numbers c =
    c.sectors.invariant.0.long' ∙ sym c.requires.numbers_len

pub shape_of-pieces : goal.shape_of-pieces
shape_of-pieces c =
    c.sectors.invariant.0.long'' ∙ sym c.requires.pieces_len

pub returns : goal.returns
returns c =
    let view = image_view c.args.g (sector_at c.args.image.now) in
    let e : c.sectors.k ≡ c.args.g.n = (omega arith) in (
      c.sectors.invariant.0.inside,
      listing_ends view _ c.sectors.sectors c.sectors.numbers c.sectors.pieces c.sectors.from c.sectors.k c.sectors.invariant.0 c.args.g.n e,
      is_newest view c.sectors.k c.args.g.n c.sectors.tail e c.sectors.invariant.1.0,
      is_closed view c.sectors.k c.args.g.n c.sectors.highest e c.requires.le_n c.sectors.invariant.1.1,
    )
