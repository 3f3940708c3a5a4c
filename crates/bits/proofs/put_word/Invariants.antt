-- The bytes below i are stored.
use mathlib.Core.Path.{◌≡◌}
use Rattle.volume.specs.Tables.{bit_at}
use Rattle.bits.proofs.WordLaws.{Part}
use Rattle.bits.proofs.put_word.Given as goal

abbrev pub invariant-loop-i : goal.invariant-loop-i
invariant-loop-i l = bit_at l.used ≡ Part l.w l.x l.i (bit_at l.initial.used)
