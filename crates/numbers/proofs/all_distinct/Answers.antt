-- The residues answer, or the pairs do.
use mathlib.Core.Path.{sym}
use Rattle.numbers.proofs.all_distinct.Goals as goal

pub returns-then-numbers-lt-FEW : goal.returns-then-numbers-lt-FEW
returns-then-numbers-lt-FEW c = c.pairs_distinct.ensures

pub returns-then-residues_distinct : goal.returns-then-residues_distinct
returns-then-residues_distinct c =
    sym (c.residues_distinct.ensures c.if-residues_distinct.true)

pub returns : goal.returns
returns c = c.pairs_distinct-2.ensures
