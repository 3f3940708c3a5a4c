-- What is counted at word w is the number of marked sectors below 64w.
use Prim.Native.Nat.{◌*◌}
use mathlib.Core.Path.{◌≡◌}
use Rattle.layout.specs.Bounded.{count_below}
use Rattle.volume.specs.Tables.{bit_at}
use Rattle.bits.proofs.count_words.Given as goal

abbrev pub invariant-loop-w : goal.invariant-loop-w
invariant-loop-w l = l.set ≡ count_below (bit_at l.used) (64 * l.w)
