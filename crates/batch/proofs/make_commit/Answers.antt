-- By the kind it is one call or the other, or neither.
use mathlib.Core.Path.{◌≡◌}
use native.Mathlib.Omega.{arith}
use Rattle.batch.proofs.Commits.{made_write, made_drop, made_neither}
use Rattle.batch.proofs.make_commit.Goals as goal

pub returns-in-0-clause-value : goal.returns-in-0-clause-value
returns-in-0-clause-value c =
    made_write _ _ _ _ _ _ _ c.in-0.is _ c.write_commit.ensures.value

pub returns-in-1-clause-value : goal.returns-in-1-clause-value
returns-in-1-clause-value c =
    made_drop _ _ _ _ _ _ _ (λ (e : c.args.kind ≡ 0). omega arith) c.in-1.is _ (rw c.is_empty-fit.ensures at c.drop_commit.ensures.value)

pub returns-in_default-clause-value : goal.returns-in_default-clause-value
returns-in_default-clause-value c =
    made_neither _ _ _ _ _ _ _ (λ (e : c.args.kind ≡ 0). omega arith) (λ (e : c.args.kind ≡ 1). omega arith)
