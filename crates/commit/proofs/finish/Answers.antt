-- The tables are settled, and the tail is the last sector taken.
use mathlib.Core.Path.{refl}
use native.Mathlib.Omega.{arith}
use Rattle.std.proofs.Common.{rules}
use Rattle.commit.proofs.CommitLaws.{some_taken, tail_is}
use Rattle.commit.proofs.finish.Goals as goal

pub last_of-tail-requires : goal.last_of-tail-requires
last_of-tail-requires c =
    some_taken _ _ _ _ _ _ _ _ c.requires.settling c.requires.members_value c.requires.le_members

pub overflow_add-number : goal.overflow_add-number
overflow_add-number c =
    omega arith

pub returns-clause-value : goal.returns-clause-value
returns-clause-value c =
    (refl, tail_is c.args.s _ _ _ _ c.committed.ensures c.last_of-tail.ensures, search rules)
