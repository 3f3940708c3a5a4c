-- What is left is the total less the counts that were passed.
use Prim.Native.Nat.{◌+◌, ◌*◌}
use native.Mathlib.Omega.{arith}
use Rattle.batch_checks.proofs.BatchLaws.{sum_none, sum_more, sum_short, sum_all}
use Rattle.batch_checks.proofs.adds_up.Goals as goal

pub loop-i-init : goal.loop-i-init
loop-i-init c = sum_none _ _

pub overflow_cast-own : goal.overflow_cast-own
overflow_cast-own c =
    let h = (c.type_inv.words (4 * c.loop-i.i + c.args.place)).fits in
    omega arith

pub returns-then-left-own : goal.returns-then-left-own
returns-then-left-own c =
    sum_short _ c.loop-i.i _ c.loop-i.left _ c.loop-i-test.true c.loop-i.invariant c.if-left-own.true

pub loop-i-preserved : goal.loop-i-preserved
loop-i-preserved c =
    sum_more _ c.loop-i.i c.loop-i.left _ c.loop-i.invariant c.if-left-own.false _ (omega arith)

pub returns : goal.returns
returns c =
    sum_all _ c.loop-i.i _ c.loop-i.left _ c.loop-i.auto.i-end c.loop-i-test.false c.loop-i.invariant
