-- So far all bytes were the same.
use mathlib.Core.Path.{refl}
use native.Mathlib.Omega.{arith}
use Rattle.soundness.proofs.SameBits.{same_none, same_more, same_all}
use Rattle.soundness.proofs.bits_agree.Goals as goal

pub loop-i-init : goal.loop-i-init
loop-i-init c = same_none c.args.used.now c.args.marks.now

pub loop-i-preserved : goal.loop-i-preserved
loop-i-preserved c =
    same_more c.args.used.now c.args.marks.now c.loop-i.i (c.type_inv.used c.loop-i.i).fits (c.type_inv.marks c.loop-i.i).fits
    c.loop-i.good _ c.loop-i.invariant refl

pub returns : goal.returns
returns c = same_all c.args.used.now c.args.marks.now c.loop-i.i c.loop-i.good (omega arith) c.loop-i.invariant
