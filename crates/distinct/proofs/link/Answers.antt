-- The numbers below i are chained.
use mathlib.Core.Path.{sym, ◌∙◌}
use native.Mathlib.Omega.{arith}
use Rattle.distinct.proofs.Chaining.{linking_none, linking_more, linking_low, linking_ends}
use Rattle.distinct.proofs.link.Goals as goal

pub loop-i-init : goal.loop-i-init
loop-i-init c =
    linking_none _ _ _ c.requires.heads_len c.requires.by_index

pub overflow_cast-g : goal.overflow_cast-g
overflow_cast-g c =
    let b = c.type_inv.xs c.loop-i.i in omega arith

pub offset_bounds-heads-g : goal.offset_bounds-heads-g
offset_bounds-heads-g c =
    let b = c.type_inv.xs c.loop-i.i in omega arith

pub bounds-heads-g : goal.bounds-heads-g
bounds-heads-g c =
    let b = c.type_inv.xs c.loop-i.i in omega arith

pub overflow_cast-next : goal.overflow_cast-next
overflow_cast-next c =
    let b = linking_low _ _ c.loop-i.heads c.loop-i.next c.loop-i.i c.loop-i.invariant (c.type_inv.xs c.loop-i.i).fits in
    omega arith

pub bounds-next-i : goal.bounds-next-i
bounds-next-i c =
    omega arith

pub offset_bounds-heads-g-in-loop-i : goal.offset_bounds-heads-g-in-loop-i
offset_bounds-heads-g-in-loop-i c =
    let b = c.type_inv.xs c.loop-i.i in omega arith

pub bounds-heads-g-in-loop-i : goal.bounds-heads-g-in-loop-i
bounds-heads-g-in-loop-i c =
    let b = c.type_inv.xs c.loop-i.i in omega arith

pub loop-i-preserved : goal.loop-i-preserved
loop-i-preserved c =
    linking_more _ _ c.loop-i.heads c.loop-i.next c.loop-i.i c.loop-i.invariant (c.type_inv.xs c.loop-i.i).fits
    c.loop-i-test.true c.requires.xs_in_bounds

pub shape_of-heads : goal.shape_of-heads
shape_of-heads c = c.loop-i.invariant.wide ∙ sym c.requires.heads_len

pub shape_of-next : goal.shape_of-next
shape_of-next c = c.loop-i.invariant.long

pub returns : goal.returns
returns c =
    linking_ends _ _ c.loop-i.heads c.loop-i.next c.loop-i.i c.loop-i.invariant c.loop-i-test.false
