-- The live sectors of the pieces below p are valid; one that is not decides.
use Rattle.live_sectors.proofs.LiveLaws.{Lives}
use Rattle.live_sectors.proofs.live_valid.Given as goal

abbrev pub invariant-loop-p : goal.invariant-loop-p
invariant-loop-p l = Lives l.g l.image l.t.map.now l.t.places.now l.t.numbers.now l.p
