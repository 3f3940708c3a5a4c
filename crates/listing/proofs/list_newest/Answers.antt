-- What is listed so far and from here on is the whole.
use mathlib.Core.Path.{refl}
use native.Mathlib.Omega.{arith}
use Rattle.listing.proofs.ListLaws.{listing_starts, listing_next, listing_full, listing_no_more, listing_done}
use Rattle.listing.proofs.list_newest.Goals as goal

pub loop-step-init : goal.loop-step-init
loop-step-init c =
    (omega arith, listing_starts _ _ _ _ _ _ _ c.args.branches.now 256 refl, c.requires.keyed)

pub take_newest-requires-clause-keyed : goal.take_newest-requires-clause-keyed
take_newest-requires-clause-keyed c = c.loop-step.invariant.2

pub loop-step-preserved : goal.loop-step-preserved
loop-step-preserved c =
    let next = listing_next _ _ _ _ _ _ _ _ _ _ _ _ _ _ _ c.requires.live c.loop-step.invariant.1 c.loop-step-test.true c.in-Some.ensures c.list_place-count.ensures.1 c.reach_branches.ensures in
    (omega arith, next, c.in-Some.ensures.older)

pub returns-after-loop-step : goal.returns-after-loop-step
returns-after-loop-step c =
    (listing_done _ _ _ _ _ _ _ _ _ _ _ c.loop-step.invariant.0 (omega arith) c.loop-step.invariant.1 (omega arith), c.loop-step.invariant.0)

pub returns-then-count-eq-FOLDING_BRANCHES : goal.returns-then-count-eq-FOLDING_BRANCHES
returns-then-count-eq-FOLDING_BRANCHES c =
    (listing_full _ _ _ _ _ _ _ _ _ _ _ (omega arith) c.loop-step.invariant.1 c.if-count-eq-FOLDING_BRANCHES.true, c.loop-step.invariant.0)

pub returns-in_default : goal.returns-in_default
returns-in_default c =
    (listing_no_more _ _ _ _ _ _ _ _ _ _ _ c.loop-step.invariant.0 (omega arith) c.loop-step.invariant.1 c.in_default.ensures, c.loop-step.invariant.0)
