-- The written pieces below p have their new places and numbers.
use Prim.Native.Nat.{suc, ◌+◌}
use mathlib.Core.Path.{◌≡◌}
use Rattle.layout.specs.Bounded.{at, count_below}
use Rattle.pieces.specs.Arrays.{flagged}
use Rattle.settle.proofs.SettleLaws.{live}
use Rattle.settle.proofs.change_live.Given as goal

abbrev pub invariant-loop-p : goal.invariant-loop-p
invariant-loop-p l =
    (l.k ≡ l.count + count_below (flagged l.written) l.p) × (l.next ≡ l.number + count_below (flagged l.written) l.p)
    × (at l.places ≡ live (flagged l.written) (λ q. at l.taken (l.count + count_below (flagged l.written) q)) (at l.initial.places) l.p) × (at l.numbers ≡ live (flagged l.written) (λ q. suc (l.number + count_below (flagged l.written) q)) (at l.initial.numbers) l.p)
