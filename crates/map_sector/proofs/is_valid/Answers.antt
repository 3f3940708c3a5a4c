-- The mark, and then the rest.
use mathlib.Core.Path.{sym, ◌∙◌}
use borrow.Author.Tests.{not-false}
use Rattle.map_sector.proofs.Maps.{valid_unmarked}
use mathlib.Core.Path.{ap}
use mathlib.Core.Bool.{not}
use Rattle.map_sector.proofs.is_valid.Goals as goal

pub returns-then-not-has_mark : goal.returns-then-not-has_mark
returns-then-not-has_mark c =
    valid_unmarked _ _ _ c.has_mark.result c.has_mark.ensures (ap not c.if-not-has_mark.true)

pub marked_valid-requires : goal.marked_valid-requires
marked_valid-requires c = record {
  s_len = c.requires.s_len;
  le_n = c.requires.le_n;
  s_value = sym c.has_mark.ensures ∙ not-false c.has_mark.result (ap not c.if-not-has_mark.false);
}
