-- What each call is lent is as long afterwards.
use mathlib.Core.Path.{◌∙◌, ap}
use Prim.Native.Nat.{ℕ}
use mathlib.Core.List.{List}
use Rattle.state.specs.declared.State.{State}
use Rattle.volume.specs.Tables.{Memory}
use Rattle.volume.specs.Store.{After}
use Rattle.lending.proofs.Kept.{format_lengths, commit_lengths, recover_lengths, held_lengths}
use Rattle.volume.specs.Calls.{write_by, drop_by}
use Rattle.storing_calls.proofs.perform.Goals as goal

pub returns-in-Format-clause-lengths : goal.returns-in-Format-clause-lengths
returns-in-Format-clause-lengths c =
    held_lengths c.format.new.m c.args.m.now (ap (λ (x : After). x.memory.lengths) c.format.ensures.value ∙ format_lengths _ _ _ _)

pub returns-in-Write-clause-lengths : goal.returns-in-Write-clause-lengths
unfolding write_by
returns-in-Write-clause-lengths c =
    held_lengths c.write.new.m c.args.m.now (ap (λ (x : After). x.memory.lengths) c.write.ensures.value ∙ commit_lengths _ _ _ _ _ _ _ _)

pub returns-in-Drop-clause-lengths : goal.returns-in-Drop-clause-lengths
unfolding drop_by
returns-in-Drop-clause-lengths c =
    held_lengths c.drop.new.m c.args.m.now (ap (λ (x : After). x.memory.lengths) c.drop.ensures.value ∙ commit_lengths _ _ _ _ _ _ _ _)

pub returns-in-Recover-clause-lengths : goal.returns-in-Recover-clause-lengths
returns-in-Recover-clause-lengths c =
    held_lengths c.recover.new.m c.args.m.now (ap (λ (x : After). x.memory.lengths) c.recover.ensures.value ∙ recover_lengths _ _ _ _)
