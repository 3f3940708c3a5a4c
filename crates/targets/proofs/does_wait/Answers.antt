-- The header decides, or the sum does.
use borrow.Author.Tests.{not-true, not-false}
use Rattle.targets.proofs.TargetLaws.{header_decides, sum_decides}
use mathlib.Core.Path.{ap}
use mathlib.Core.Bool.{not}
use Rattle.targets.proofs.does_wait.Goals as goal

pub returns-then-not-may_wait : goal.returns-then-not-may_wait
returns-then-not-may_wait c =
    header_decides _ _ _ _ _ c.number_of-number.result c.piece_of-p.result c.number_of-number.ensures c.piece_of-p.ensures c.may_wait.result c.may_wait.ensures
    (not-true c.may_wait.result (ap not c.if-not-may_wait.true))

pub returns : goal.returns
returns c =
    sum_decides _ _ _ _ _ c.number_of-number.result c.piece_of-p.result c.number_of-number.ensures c.piece_of-p.ensures c.may_wait.result c.may_wait.ensures
    (not-false c.may_wait.result (ap not c.if-not-may_wait.false)) c.is_valid.result c.is_valid.ensures
