-- The numbers of the group from index p on are met.
use Prim.Native.Nat.{◌-◌}
use mathlib.Core.Path.{refl}
use native.Mathlib.Omega.{arith}
use Rattle.laws.proofs.Bounded.{clash}
use Rattle.distinct.proofs.Chaining.{walking_none, walking_more, walking_falls, walking_meets, walking_ends}
use Rattle.distinct.proofs.chain_distinct.Goals as goal

pub loop-p-init : goal.loop-p-init
loop-p-init c =
    walking_none _ _ _ _ c.requires.stamps_len c.requires.by_index c.requires.head_value

pub overflow_cast-p : goal.overflow_cast-p
overflow_cast-p c =
    let b = c.type_inv.next (c.loop-p.p - 1) in omega arith

pub returns-then-stamps-k : goal.returns-then-stamps-k
returns-then-stamps-k c =
    (λ e. clash _ e refl, λ _. walking_meets _ _ c.loop-p.stamps c.loop-p.p c.loop-p.invariant c.loop-p-test.true c.if-stamps-k.true, c.loop-p.invariant.most)

pub loop-p-smaller : goal.loop-p-smaller
loop-p-smaller c =
    walking_falls _ _ c.loop-p.stamps c.loop-p.p c.loop-p.invariant c.loop-p-test.true c.args.next.now c.requires.back

pub loop-p-preserved : goal.loop-p-preserved
loop-p-preserved c =
    walking_more _ _ c.loop-p.stamps c.loop-p.p c.loop-p.invariant c.loop-p-test.true c.if-stamps-k.false c.args.next.now c.requires.back

pub returns : goal.returns
returns c =
    (λ _. walking_ends _ _ c.loop-p.stamps c.loop-p.p c.loop-p.invariant c.loop-p-test.false, λ e. clash _ refl e, c.loop-p.invariant.most)
