-- Every match is played but the one of place i, and its entry is at hand.
use Rattle.tournament.proofs.TournamentLaws.{Climbed}
use Rattle.tournament.proofs.replay.Given as goal

abbrev pub invariant-loop-i : goal.invariant-loop-i
invariant-loop-i l = Climbed l.n l.initial.tree l.tree l.i l.won

abbrev pub decreases-loop-i : goal.decreases-loop-i
decreases-loop-i l = l.i
