-- Refused it hands everything back; otherwise it is the commit of the definition.
use mathlib.Core.Path.{refl, sym, ◌∙◌}
use mathlib.Core.Logic.{inl}
use mathlib.Core.List.{[]}
use Rattle.write.proofs.WriteLaws.{drop_refused, drop_passed, drop_done}
use Rattle.write.proofs.drop_commit.Goals as goal

pub commit-requires : goal.commit-requires
commit-requires c = record {
  value = drop_passed _ _ _ _ _ _ _ _ 0 _ (sym c.in-Ok.is ∙ c.lent_verdict-verdict.ensures);
  fact = inl refl;
  bytes_len = refl;
}

pub returns-in-Err-clause-value : goal.returns-in-Err-clause-value
returns-in-Err-clause-value c =
    drop_refused _ _ _ _ _ _ _ _ _ _ _ (sym c.in-Err.is ∙ c.lent_verdict-verdict.ensures)

pub returns-in-Ok-clause-value : goal.returns-in-Ok-clause-value
returns-in-Ok-clause-value c =
    drop_done _ _ _ _ _ _ _ _ _ _ [] _ (sym c.in-Ok.is ∙ c.lent_verdict-verdict.ensures) c.commit.ensures.value
