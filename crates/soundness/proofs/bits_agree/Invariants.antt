-- So far all bytes were the same.
use Prim.Native.Nat.{◌*◌}
use mathlib.Core.Path.{◌≡◌}
use mathlib.Core.Bool.{beq}
use Rattle.layout.specs.Bounded.{all_below}
use Rattle.volume.specs.Tables.{bit_at}
use Rattle.soundness.proofs.bits_agree.Given as goal

abbrev pub invariant-loop-i : goal.invariant-loop-i
invariant-loop-i l = l.good ≡ all_below (λ k. beq (bit_at l.used k) (bit_at l.marks k)) (8 * l.i)
