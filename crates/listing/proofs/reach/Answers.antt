-- At most one flag is set, and only where the live sector is the branch's.
use native.Mathlib.Omega.{arith}
use Rattle.listing.proofs.ListLaws.{reach_one}
use Rattle.listing.proofs.reach.Goals as goal

pub returns-then-numbers-q : goal.returns-then-numbers-q
returns-then-numbers-q c =
    reach_one c.args.reached.now c.args.places.now c.args.numbers.now c.args.p c.args.b c.args.bound c.requires.by_index c.if-places-q.true c.if-numbers-q.true (omega arith)
