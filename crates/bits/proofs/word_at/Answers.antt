-- Its bits are those of its bytes, by the law word_bits.
use native.Mathlib.Omega.{arith}
use Rattle.bits.proofs.WordLaws.{word_bits}
use Rattle.bits.proofs.word_at.Goals as goal

pub returns : goal.returns
returns c =
    word_bits c.args.used.now c.args.w c.from_le_bytes.result (λ i. omega (arith, c.type_inv.used i)) (omega (arith, c.from_le_bytes.ensures))
