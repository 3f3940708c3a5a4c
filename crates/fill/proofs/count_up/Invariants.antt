-- The places below i are filled, by the laws of Filling.
use Prim.Native.Nat.{◌+◌}
use Rattle.laws.proofs.Filling.{Filled}
use Rattle.fill.proofs.count_up.Given as goal

abbrev pub invariant-loop-i : goal.invariant-loop-i
invariant-loop-i l = Filled (λ k. k + 1) l.initial.words l.i l.words
