-- What is struck out counts as 0 below the bound already; the first entry falls with each turn.
use Rattle.layout.specs.Bounded.{at}
use Rattle.tournament.proofs.TournamentLaws.{Striking}
use Rattle.tournament.proofs.keep_below.Given as goal

abbrev pub invariant-loop-tree : goal.invariant-loop-tree
invariant-loop-tree l = Striking l.n l.bound l.initial.tree l.tree

abbrev pub decreases-loop-tree : goal.decreases-loop-tree
decreases-loop-tree l = at l.tree 1
