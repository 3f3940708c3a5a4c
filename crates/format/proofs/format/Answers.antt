-- A refused format hands everything back; otherwise it is the definition's action.
use mathlib.Core.Path.{sym, ◌∙◌}
use Rattle.checks.proofs.SizeLaws.{by_lengths}
use Rattle.fresh.proofs.FormatLaws.{format_refused, format_passed}
use Rattle.format.proofs.format.Goals as goal

pub make-requires : goal.make-requires
make-requires c =
    by_lengths c.args.m.now _ _ _ (sym c.in-Ok.is ∙ c.size_verdict-verdict.ensures) c.lengths.ensures

pub returns-in-Err-clause-value : goal.returns-in-Err-clause-value
returns-in-Err-clause-value c =
    format_refused _ _ _ _ _ _ _ _ _ (by_lengths c.args.m.now _ _ _ (sym c.in-Err.is ∙ c.size_verdict-verdict.ensures) c.lengths.ensures)

pub returns-in-Ok-clause-value : goal.returns-in-Ok-clause-value
returns-in-Ok-clause-value c =
    format_passed _ _ _ _ _ _ _ _ _ (by_lengths c.args.m.now _ _ _ (sym c.in-Ok.is ∙ c.size_verdict-verdict.ensures) c.lengths.ensures)
    c.make.ensures.value
