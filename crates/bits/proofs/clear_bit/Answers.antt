-- One bit of one byte changes, by the law bit_clear.
use native.Mathlib.Omega.{arith}
use Rattle.bits.proofs.BitLaws.{bit_clear}
use Rattle.bits.proofs.clear_bit.Goals as goal

pub returns : goal.returns
returns c = bit_clear c.args.used.now c.args.k c.requires (omega arith)
