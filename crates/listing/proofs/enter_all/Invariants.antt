-- The first q pieces are entered.
use lib.ListN.{length}
use Rattle.tournament.proofs.TournamentLaws.{Entered}
use Rattle.listing.proofs.ListLaws.{key}
use Rattle.listing.proofs.enter_all.Given as goal

abbrev pub invariant-loop-q : goal.invariant-loop-q
invariant-loop-q l = Entered (length l.numbers) (key l.numbers l.touched l.bound) l.tree l.q
