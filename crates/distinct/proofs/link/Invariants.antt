-- The numbers below i are chained.
use Rattle.distinct.proofs.Chaining.{Linking}
use Rattle.distinct.proofs.link.Given as goal

abbrev pub invariant-loop-i : goal.invariant-loop-i
invariant-loop-i l = Linking l.xs l.initial.next l.heads l.next l.i
