-- The commits below i are made and answered, each with what those before it left.
use mathlib.Core.Path.{◌≡◌}
use lib.ListN.{length}
use Rattle.lending.specs.Lending.{held, SameLent}
use Rattle.batch.proofs.Making.{Making}
use Rattle.batch.proofs.make_commits.Given as goal

abbrev pub invariant-loop-i : goal.invariant-loop-i
invariant-loop-i l =
    SameLent l.m l.initial.m × (length l.answers ≡ length l.initial.answers)
    × Making l.words l.blocks l.bytes l.initial.state (held l.initial.m) l.allowance l.initial.answers l.i l.state (held l.m) l.left l.skipped l.block l.byte l.answers
