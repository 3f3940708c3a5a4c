-- The first q entries have the key 0.
use Rattle.tournament.proofs.TournamentLaws.{Entered}
use Rattle.tournament.proofs.start.Given as goal

abbrev pub invariant-loop-q : goal.invariant-loop-q
invariant-loop-q l = Entered l.n (λ _. 0) l.tree l.q
