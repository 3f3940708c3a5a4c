-- The wait until position 0, on track 0 and from another.
use Prim.Native.Nat.{◌+◌, ◌-◌, ◌%◌}
use native.Mathlib.Nat.{mod-lt}
use native.Mathlib.Omega.{arith}
use Rattle.placing.proofs.PlaceLaws.{zero_own, zero_other}
use Rattle.placing.proofs.delay_to_0.Goals as goal

pub overflow_sub-result : goal.overflow_sub-result
overflow_sub-result c =
    let low = mod-lt c.args.start c.requires.sectors_nonzero in
    omega arith

pub returns-then-start-size-eq0 : goal.returns-then-start-size-eq0
returns-then-start-size-eq0 c =
    zero_own c.args.d c.requires.sectors_nonzero c.args.start c.if-start-size-eq0.true

pub overflow_add-result : goal.overflow_add-result
overflow_add-result c =
    let low = mod-lt c.args.start c.requires.sectors_nonzero in
    omega arith

pub overflow_sub-result-2 : goal.overflow_sub-result-2
overflow_sub-result-2 c =
    let low = mod-lt (c.args.start % c.args.d.sectors + c.args.d.switch) c.requires.sectors_nonzero in
    omega arith

pub overflow_add-result-2 : goal.overflow_add-result-2
overflow_add-result-2 c =
    let low = mod-lt (c.args.d.sectors - (c.args.start % c.args.d.sectors + c.args.d.switch) % c.args.d.sectors) c.requires.sectors_nonzero in
    omega arith

pub returns : goal.returns
returns c =
    zero_other c.args.d c.requires.sectors_nonzero c.args.start c.if-start-size-eq0.false
