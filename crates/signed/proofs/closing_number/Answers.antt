-- By its kind.
use mathlib.Core.Path.{sym, ◌∙◌}
use lib.Dec.{eqb}
use borrow.Author.Tests.{not-true, not-false}
use Rattle.layout.specs.Bounded.{at}
use Rattle.layout.specs.Word.{words_of}
use Rattle.laws.proofs.Bounded.{cond_true, cond_false}
use mathlib.Core.Path.{ap}
use mathlib.Core.Bool.{not}
use Rattle.signed.proofs.closing_number.Goals as goal

pub returns-then-not-is_closing : goal.returns-then-not-is_closing
returns-then-not-is_closing c =
    let ws = words_of c.args.s.now in
    sym (cond_false (eqb (at ws 5) 1) (at ws 2) 0 (sym c.is_closing.ensures ∙ not-true c.is_closing.result (ap not c.if-not-is_closing.true)))

pub returns : goal.returns
returns c =
    let ws = words_of c.args.s.now in
    c.number_of.ensures ∙ sym (cond_true (eqb (at ws 5) 1) (at ws 2) 0 (sym c.is_closing.ensures ∙ not-false c.is_closing.result (ap not c.if-not-is_closing.false)))
