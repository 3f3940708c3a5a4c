-- A loop that fills a list from the front, one store a turn, with a value for each place: after n turns it is the values below
-- n, and then what stood there.
use Prim.Native.Nat.{ℕ, zero, suc, ◌+◌, ◌≤◌, ◌<◌}
use mathlib.Core.Path.{◌≡◌, refl, ◌∙◌, ap}
use mathlib.Core.List.{List, [], ◌∷◌, ◌++◌, append-nil}
use native.Mathlib.Nat.{not-suc-le-zero, le_of_suc-le-suc}
use native.Mathlib.Numerals.{add-one}
use native.Mathlib.Omega.{arith}
use lib.ListN.{length, get_or, set, drop, replicate, length-append, length-drop}
use lib.Seq.{drop-length}
use Rattle.layout.specs.Bounded.{list_from}
use Rattle.laws.proofs.Bounded.{length_list_from}

step_from : (f : ℕ → ℕ) (from n : ℕ) (d : List ℕ) → n < length d
    → set (list_from f from n ++ drop n d) n (f (from + n)) ≡ list_from f from (suc n) ++ drop (suc n) d
unfolding list_from
step_from f from n [] h = absurd (not-suc-le-zero h)
step_from f from zero (x ∷ d) h = ap (λ (v : ℕ). f v ∷ d) (let e : from + 0 ≡ from = omega arith in e)
step_from f from (suc n) (x ∷ d) h =
    ap (λ (t : List ℕ). f from ∷ t)
    (ap (λ (k : ℕ). set (list_from f (suc from) n ++ drop n d) n (f k)) (let e : from + suc n ≡ suc from + n = omega arith in e)
    ∙ step_from f (suc from) n d (le_of_suc-le-suc h))

module _ (f : ℕ → ℕ) (d : List ℕ) where
  -- The first n places are filled.
  abbrev pub Filled : ℕ → List ℕ → Type 0
  Filled n xs = (n ≤ length d) × (xs ≡ list_from f 0 n ++ drop n d)

  pub filled_none : Filled 0 d
  unfolding list_from
  filled_none = (omega arith, refl)

  pub filled_length : (n : ℕ) (xs : List ℕ) → Filled n xs → length xs ≡ length d
  filled_length n xs h =
      let b = h.0 in
      ap length h.1 ∙ simp (length-append, length-drop, length_list_from) (omega arith)

  pub filled_more : (n : ℕ) (xs : List ℕ) → n < length d → Filled n xs → Filled (n + 1) (set xs n (f n))
  filled_more n xs h s = (
    omega arith,
    rw add-one
        (ap (λ (l : List ℕ). set l n (f n)) s.1
        ∙ ap (λ (k : ℕ). set (list_from f 0 n ++ drop n d) n (f k)) (let e : n ≡ 0 + n = omega arith in e) ∙ step_from f 0 n d h),
  )

  pub filled_all : (n : ℕ) (xs : List ℕ) → length d ≤ n → Filled n xs → xs ≡ list_from f 0 (length d)
  filled_all n xs h s =
      let b = s.0 in
      let e : n ≡ length d = omega arith in
      s.1 ∙ ap (λ (k : ℕ). list_from f 0 k ++ drop k d) e ∙ ap (λ (l : List ℕ). list_from f 0 (length d) ++ l) (drop-length d)
      ∙ append-nil (list_from f 0 (length d))

pub zeros : (from n : ℕ) → list_from {A = ℕ} (λ _. 0) from n ≡ replicate n 0
unfolding list_from
zeros from zero = refl
zeros from (suc n) = ap (λ (l : List ℕ). 0 ∷ l) (zeros (suc from) n)

-- Zeros, read anywhere.
pub zeros_get : (n k : ℕ) → ◌≡◌ {A = ℕ} (get_or (replicate n 0) k 0) 0
zeros_get zero k = refl
zeros_get (suc n) zero = refl
zeros_get (suc n) (suc k) = zeros_get n k
