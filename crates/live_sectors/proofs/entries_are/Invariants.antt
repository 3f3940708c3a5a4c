-- So far all were the same.
use Prim.Native.Nat.{ℕ, ◌<◌}
use mathlib.Core.Path.{◌≡◌}
use lib.Dec.{eqb}
use Rattle.layout.specs.Bounded.{at, all_below}
use Rattle.layout.specs.Word.{words_of}
use Rattle.layout.specs.MapSector.{entry_words}
use Rattle.live_sectors.proofs.entries_are.Given as goal

abbrev pub invariant-loop-i : goal.invariant-loop-i
invariant-loop-i g l =
    (wanted : ℕ → ℕ) → ((i e : ℕ) → i < 96 → goal.F-post g l.entry i e → e ≡ wanted i)
    → l.good ≡ all_below (λ i. eqb (at (entry_words (words_of l.s)) i) (wanted i)) l.i
