-- The header, the branches, the entries and the sum decide in turn.
use mathlib.Core.Path.{refl, sym}
use mathlib.Core.Bool.{true}
use Rattle.layout.specs.Word.{words_of}
use Rattle.map_sector.proofs.Maps.{valid_header, valid_branches, valid_entries, valid_sum, piece_below, few_branches}
use mathlib.Core.Path.{ap}
use mathlib.Core.Bool.{not}
use Rattle.map_sector.proofs.marked_valid.Goals as goal

pub returns-then-not-header_fits : goal.returns-then-not-header_fits
returns-then-not-header_fits c =
    valid_header _ _ _ true (sym c.requires.s_value) refl c.header_fits.result c.header_fits.ensures (ap not c.if-not-header_fits.true)

pub branches_fit-requires : goal.branches_fit-requires
branches_fit-requires c = record {
  s_len = c.requires.s_len;
  le_n = c.requires.le_n;
  s_bound = few_branches c.args.g c.args.s.now (words_of c.args.s.now) true (sym c.requires.s_value) refl c.header_fits.result c.header_fits.ensures (ap not c.if-not-header_fits.false);
}

pub returns-then-not-branches_fit : goal.returns-then-not-branches_fit
returns-then-not-branches_fit c =
    valid_branches _ _ _ true (sym c.requires.s_value) refl c.header_fits.result c.header_fits.ensures (ap not c.if-not-header_fits.false) c.branches_fit.result c.branches_fit.ensures (ap not c.if-not-branches_fit.true)

pub entries_fit-requires : goal.entries_fit-requires
entries_fit-requires c = record {
  s_len = c.requires.s_len;
  s_bound = piece_below c.args.g c.args.s.now (words_of c.args.s.now) true (sym c.requires.s_value) refl c.header_fits.result c.header_fits.ensures (ap not c.if-not-header_fits.false);
}

pub returns-then-not-entries_fit : goal.returns-then-not-entries_fit
returns-then-not-entries_fit c =
    valid_entries _ _ _ true (sym c.requires.s_value) refl c.header_fits.result c.header_fits.ensures (ap not c.if-not-header_fits.false) c.branches_fit.result c.branches_fit.ensures (ap not c.if-not-branches_fit.false) c.entries_fit.result c.entries_fit.ensures (ap not c.if-not-entries_fit.true)

pub returns : goal.returns
returns c =
    valid_sum _ _ _ true (sym c.requires.s_value) refl c.header_fits.result c.header_fits.ensures (ap not c.if-not-header_fits.false) c.branches_fit.result c.branches_fit.ensures (ap not c.if-not-branches_fit.false) c.entries_fit.result c.entries_fit.ensures (ap not c.if-not-entries_fit.false)
    c.word_sum.result c.word_sum.ensures
