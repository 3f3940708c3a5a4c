-- The mark, the sum and the rest decide in turn.
use mathlib.Core.Path.{sym, ap, ◌∙◌}
use borrow.Author.Tests.{eq-eqb, ne_eqb}
use Rattle.layout.specs.Bounded.{is_zero}
use Rattle.park_record.proofs.Parks.{park_unmarked, park_unbalanced_lem, park_rest}
use Rattle.park_record.proofs.is_park.Goals as goal

pub returns-then-not-starts_with : goal.returns-then-not-starts_with
returns-then-not-starts_with c =
    sym (park_unmarked c.args.s.now (sym c.starts_with.ensures ∙ c.if-not-starts_with.true))

pub returns-then-word_sum-ne0 : goal.returns-then-word_sum-ne0
returns-then-word_sum-ne0 c =
    sym (park_unbalanced_lem c.args.s.now (ap is_zero (sym c.word_sum.ensures) ∙ ne_eqb _ 0 c.if-word_sum-ne0.true) (sym c.starts_with.ensures ∙ c.if-not-starts_with.false))

pub returns : goal.returns
returns c =
    c.words_zero.ensures
    ∙ sym (park_rest c.args.s.now c.requires (sym c.starts_with.ensures ∙ c.if-not-starts_with.false) (ap is_zero (sym c.word_sum.ensures) ∙ eq-eqb _ 0 c.if-word_sum-ne0.false))
