-- The bytes below i are stored.
use mathlib.Core.Path.{refl, ◌∙◌}
use native.Mathlib.Omega.{arith}
use Rattle.volume.specs.Tables.{bit_at}
use Rattle.bits.proofs.WordLaws.{part_none, part_more, part_all}
use Rattle.bits.proofs.put_word.Goals as goal

pub loop-i-init : goal.loop-i-init
loop-i-init c = part_none c.args.w c.args.x (bit_at c.args.used.now)

pub loop-i-preserved : goal.loop-i-preserved
loop-i-preserved c =
    part_more c.loop-i.used c.args.w c.args.x c.loop-i.i _ (bit_at c.args.used.now) (omega arith) (omega arith) refl c.loop-i.invariant

pub returns : goal.returns
returns c =
    c.loop-i.invariant ∙ part_all c.args.w c.args.x c.loop-i.i (bit_at c.args.used.now) (omega arith)
