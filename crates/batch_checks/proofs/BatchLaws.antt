-- What a batch is refused with as a whole, by the tests that led there.
use Prim.Native.Nat.{ℕ, zero, suc, ◌+◌, ◌≤◌, ◌<◌}
use mathlib.Core.Path.{◌≡◌, refl, sym, ◌∙◌}
use mathlib.Core.Logic.{⊎_elim}
use mathlib.Core.Bool.{Bool, true, false, cond}
use mathlib.Core.List.{List}
use native.Mathlib.Numerals.{add-one}
use native.Mathlib.Omega.{arith}
use lib.Dec.{eqb}
use borrow.Author.Tests.{eq-eqb, ne_eqb}
use Rattle.std.specs.Prelude.{Result, Ok, Err, ⊤}
use Rattle.geometry.specs.Geometry.{within}
use Rattle.state.specs.declared.State.{State}
use Rattle.answer.specs.declared.Refusal.{Refusal}
use Rattle.answer.specs.declared.Refusal.TheVariants.{CommitCount}
use Rattle.answer.specs.Answer.{lengths}
use Rattle.layout.specs.Bounded.{sum_below}
use Rattle.volume.specs.Refusals.{applies, first_of, judged}
use Rattle.volume.specs.Calls.{state_checks}
use Rattle.batches.specs.Batch.{batch_fits, batch_checks, commits_lent}
use Rattle.laws.proofs.Bounded.{bool?, eq?, lt?}
use Rattle.laws.proofs.Judged.{later, lengths_refused, lengths_passed}
use Rattle.checks.specs.Left.{lent}

-- A sum, taken off a total part by part.
module _ (f : ℕ → ℕ) where
  pub sum_none : (total : ℕ) → sum_below f 0 + total ≡ total
  unfolding sum_below
  sum_none total = omega arith

  pub sum_more : (i left total : ℕ) → sum_below f i + left ≡ total → f i ≤ left → (rest : ℕ) → rest + f i ≡ left → sum_below f (i + 1) + rest ≡ total
  unfolding sum_below
  sum_more i left total e h rest r = rw add-one (omega arith)

  pub sum_grows : (i n : ℕ) → i ≤ n → sum_below f i ≤ sum_below f n
  unfolding sum_below
  sum_grows i zero h = rw (let z : i ≡ 0 = omega arith in z) (omega arith)
  sum_grows i (suc n) h =
      ⊎_elim (λ (z : i < suc n). let r = sum_grows i n (omega arith) in omega arith)
      (λ (z : suc n ≤ i). rw (let y : i ≡ suc n = omega arith in y) (omega arith)) (lt? i (suc n))

  pub sum_short : (i n left total : ℕ) → i < n → sum_below f i + left ≡ total → left < f i → false ≡ eqb (sum_below f n) total
  unfolding sum_below
  sum_short i n left total h e s =
      let g = sum_grows (suc i) n h in
      sym (ne_eqb (sum_below f n) total (λ (z : sum_below f n ≡ total). omega arith))

  pub sum_all : (i n left total : ℕ) → i ≤ n → n ≤ i → sum_below f i + left ≡ total → eqb left 0 ≡ eqb (sum_below f n) total
  sum_all i n left total h g e =
      let same : i ≡ n = omega arith in
      let e' : sum_below f n + left ≡ total = rw same at e in
      ⊎_elim (λ (z : left ≡ 0). eq-eqb left 0 z ∙ sym (eq-eqb (sum_below f n) total (omega arith)))
      (λ (z : left ≡ 0 → ⊥). ne_eqb left 0 z ∙ sym (ne_eqb (sum_below f n) total (λ (y : sum_below f n ≡ total). z (omega arith)))) (eq? left 0)

-- Refusal 12.
abbrev pub counted : ℕ → Result ⊤ Refusal
counted commits = cond (within 1 32 commits) (Ok tt) (Err CommitCount)

-- All together: the verdict on the lengths is v.
module _ (s : State) (image map places numbers used : ℕ) (words : List ℕ) (blocks bytes answers : ℕ) (fit : Bool)
    (ff : fit ≡ batch_fits words blocks bytes answers) (v : Result ⊤ Refusal)
    (f : v ≡ first_of lengths (state_checks s (lent image map places numbers used) fit)) where
  abbrev verdict : Result ⊤ Refusal
  verdict = judged (batch_checks s (lent image map places numbers used) words blocks bytes answers)

  by_lengths : v ≡ first_of lengths (batch_checks s (lent image map places numbers used) words blocks bytes answers)
  unfolding batch_checks first_of applies
  by_lengths = rw (← ff) f

  pub whole_refused : (r : Refusal) → v ≡ Err r → Err r ≡ verdict
  whole_refused r e = lengths_refused _ r (sym e ∙ by_lengths)

  count_decides : counted (commits_lent words) ≡ first_of later (batch_checks s (lent image map places numbers used) words blocks bytes answers)
  unfolding batch_checks first_of applies
  count_decides =
      ⊎_elim (λ (z : within 1 32 (commits_lent words) ≡ true). rw z refl) (λ (z : within 1 32 (commits_lent words) ≡ false). rw z refl)
      (bool? (within 1 32 (commits_lent words)))

  pub whole_passed : v ≡ Ok tt → (w : Result ⊤ Refusal) → w ≡ counted (commits_lent words) → w ≡ verdict
  whole_passed e w k = lengths_passed _ w (sym e ∙ by_lengths) (k ∙ count_decides)
