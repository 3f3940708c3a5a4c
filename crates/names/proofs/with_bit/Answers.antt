-- One bit is set, by the law or-bit.
use Rattle.std.proofs.Common.{ℕ, ◌/◌, ◌%◌, ◌^◌, eqb, ap, ◌∙◌, one-mul, arith, shl_exact}
use lib.Bits.{bit_or}
use Rattle.bits.proofs.WordLaws.{or_bit}
use Rattle.names.proofs.with_bit.Goals as goal

pub returns : goal.returns
returns c =
    λ j h.
    ap (λ (x : ℕ). eqb (bit_or c.args.word x / 2 ^ j % 2) 1) (shl_exact 1 (c.args.k % 64) 64 (omega arith) (omega arith) ∙ one-mul (2 ^ (c.args.k % 64)))
    ∙ or_bit c.args.word (c.args.k % 64) j
