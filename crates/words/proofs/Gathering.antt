-- A test of every word in a run, gathered: what was well so far, and what is left.
use Rattle.std.proofs.Common.{◌≡◌, ℕ, ◌+◌, ◌<◌, ◌≤◌, Bool, true, false, ◌&&◌, List, length, sym, refl, ap, ◌∙◌, add-one}
use lib.Seq.{slice, slice-cons, slice_empty}
use Rattle.layout.specs.Bounded.{at, all}

both_then : (a b c : Bool) → (a && (b && c)) ≡ ((a && b) && c)
both_then true b c = refl
both_then false b c = refl

both_true : (a : Bool) → (a && true) ≡ a
both_true true = refl
both_true false = refl

module _ (test : ℕ → Bool) (xs : List ℕ) (end : ℕ) (bound : end ≤ length xs) (whole good : Bool) (k : ℕ) (so_far : whole ≡ (good && all test (slice k end xs))) where
  pub gathered_more : k < end → (w : ℕ) → w ≡ at xs k → (good' : Bool) → good' ≡ (good && test w) → whole ≡ (good' && all test (slice (k + 1) end xs))
  unfolding all
  gathered_more h w e good' f =
      let left : all test (slice k end xs) ≡ (test w && all test (slice (k + 1) end xs)) = rw (slice-cons k end xs 0 h bound, add-one, e) refl in
      so_far ∙ ap (λ (b : Bool). good && b) left ∙ both_then good (test w) (all test (slice (k + 1) end xs))
      ∙ ap (λ (b : Bool). b && all test (slice (k + 1) end xs)) (sym f)

  pub gathered_all : k ≡ end → good ≡ whole
  unfolding all
  gathered_all e =
      let left : all test (slice k end xs) ≡ true = rw (e, slice_empty end xs) refl in
      sym (so_far ∙ ap (λ (b : Bool). good && b) left ∙ both_true good)
