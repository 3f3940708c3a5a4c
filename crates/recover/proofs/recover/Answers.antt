-- A refused recovery hands everything back; otherwise it is the definition's.
use mathlib.Core.Path.{sym, ◌∙◌}
use Rattle.checks.proofs.SizeLaws.{by_lengths}
use Rattle.recover.proofs.RecoverLaws.{recover_refused, recover_passed}
use Rattle.recover.proofs.recover.Goals as goal

pub find-requires : goal.find-requires
find-requires c =
    by_lengths c.args.m.now _ _ _ (sym c.in-Ok.is ∙ c.size_verdict-verdict.ensures) c.lengths.ensures

pub returns-in-Err-clause-value : goal.returns-in-Err-clause-value
returns-in-Err-clause-value c =
    recover_refused _ _ _ _ _ _ _ _ _ (by_lengths c.args.m.now _ _ _ (sym c.in-Err.is ∙ c.size_verdict-verdict.ensures) c.lengths.ensures)

pub returns-in-Ok-clause-value : goal.returns-in-Ok-clause-value
returns-in-Ok-clause-value c =
    recover_passed _ _ _ _ _ _ _ _ _ (by_lengths c.args.m.now _ _ _ (sym c.in-Ok.is ∙ c.size_verdict-verdict.ensures) c.lengths.ensures)
    c.find.ensures.value
