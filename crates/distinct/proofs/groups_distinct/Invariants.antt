-- The groups below g are walked.
use Rattle.distinct.proofs.Chaining.{Grouping}
use Rattle.distinct.proofs.groups_distinct.Given as goal

abbrev pub invariant-loop-g : goal.invariant-loop-g
invariant-loop-g l = Grouping l.xs l.stamps l.g
