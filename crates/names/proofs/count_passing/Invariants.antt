-- So far those that pass are counted.
use Rattle.std.proofs.Common.{◌≡◌, ℕ, ◌<◌, ◌≤◌, ◌^◌, Bool}
use Rattle.layout.specs.Bounded.{at, count_below}
use Rattle.names.proofs.count_passing.Given as goal

abbrev pub invariant-loop-word : goal.invariant-loop-word
invariant-loop-word g l =
    (l.count ≤ l.word-index)
    × ((test : ℕ → Bool) → ((w : ℕ) (b : Bool) → w < 2 ^ 32 → goal.F-post g l.passes w b → b ≡ test w) → l.count ≡ count_below (λ i. test (at l.words i)) l.word-index)
