-- Nothing is known of the tables.
use mathlib.Core.Path.{sym}
use mathlib.Core.Bool.{true≢false}
use Rattle.write.proofs.WriteLaws.{drop_single}
use Rattle.write.proofs.drop.Goals as goal

pub drop_commit-requires : goal.drop_commit-requires
drop_commit-requires c z = absurd (true≢false (sym z))

pub returns-clause-value : goal.returns-clause-value
returns-clause-value c =
    drop_single _ _ _ _ _ _ c.drop_commit.ensures.value
