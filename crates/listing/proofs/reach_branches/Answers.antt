-- What the first i branches reach is reached.
use native.Mathlib.Omega.{arith}
use Rattle.listing.proofs.ListLaws.{reached_none, reached_more, reached_whole}
use Rattle.listing.proofs.reach_branches.Goals as goal

pub loop-i-init : goal.loop-i-init
loop-i-init c = reached_none _ _ _ _ _

pub loop-i-preserved : goal.loop-i-preserved
loop-i-preserved c = reached_more _ _ _ _ _ _ _ _ c.loop-i.invariant (omega arith) c.reach_branch.ensures

pub returns : goal.returns
returns c = reached_whole _ _ _ _ _ _ _ _ c.loop-i.invariant (omega arith)
