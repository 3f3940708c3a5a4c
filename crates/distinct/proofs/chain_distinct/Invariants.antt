-- The numbers of the group from index p on are met.
use Rattle.distinct.proofs.Chaining.{Walking}
use Rattle.distinct.proofs.chain_distinct.Given as goal

abbrev pub invariant-loop-p : goal.invariant-loop-p
invariant-loop-p l = Walking l.xs l.g l.stamps l.p

abbrev pub decreases-loop-p : goal.decreases-loop-p
decreases-loop-p l = l.p
