-- The matches from place k on are played.
use Rattle.tournament.proofs.TournamentLaws.{Descended}
use Rattle.tournament.proofs.play_all.Given as goal

abbrev pub invariant-loop-k : goal.invariant-loop-k
invariant-loop-k l = Descended l.n l.initial.tree l.tree l.k
