-- One bit of one byte changes, by the law bit_set.
use native.Mathlib.Omega.{arith}
use Rattle.bits.proofs.BitLaws.{bit_set}
use Rattle.bits.proofs.set_bit.Goals as goal

pub returns : goal.returns
returns c = bit_set c.args.used.now c.args.k c.requires (omega arith)
