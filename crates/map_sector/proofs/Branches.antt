-- The 24 branches, one after the other: each fits by itself exactly where the used ones are sectors and the others zero.
use Prim.Native.Nat.{ℕ, zero, suc, ◌+◌, ◌-◌, ◌≤◌, ◌<◌}
use mathlib.Core.Bool.{Bool, true, false, cond, not, ◌&&◌, beq, true≢false}
use mathlib.Core.Path.{◌≡◌, refl, sym, ap, ap₂, ◌∙◌, fun_ext}
use mathlib.Core.Logic.{⊎_elim}
use mathlib.Core.List.{List, [], ◌∷◌}
use native.Mathlib.Numerals.{add-one}
use native.Mathlib.Omega.{arith}
use lib.ListN.{length, take, drop, length-drop}
use lib.Seq.{length-take-le}
use lib.Dec.{eqb, leb, ltb}
use borrow.Author.Tests.{eqb-true, eq-eqb, ne_eqb, le-leb, lt-leb, lt-ltb, le-ltb}
use Rattle.geometry.specs.Geometry.{within}
use Rattle.layout.specs.Bounded.{at, all_below, all, is_zero}
use Rattle.layout.specs.Word.{words_of}
use Rattle.layout.specs.MapSector.{branch_words, branches_fit}
use Rattle.laws.proofs.Words.{length_words_of}
use Rattle.laws.proofs.Bounded.{bool?, lt?, cond_true, cond_false}
use Rattle.map_sector.specs.Header.{branch_fits}

-- One branch.
module _ (n count i w : ℕ) (some : 1 ≤ n) where
  -- Used, and unused.
  used_one : i < count → branch_fits n count i w ≡ within 1 (n - 1) w
  unfolding branch_fits
  used_one h = cond_true (ltb i count) (within 1 (n - 1) w) (is_zero w) (lt-ltb i count h)

  unused_one : count ≤ i → branch_fits n count i w ≡ is_zero w
  unfolding branch_fits
  unused_one h = cond_false (ltb i count) (within 1 (n - 1) w) (is_zero w) (le-ltb i count h)

  past : n ≤ w → branch_fits n count i w ≡ false
  past far =
      ⊎_elim (λ (h : i < count).
      used_one h ∙ ap₂ (λ (a b : Bool). a && b) (le-leb 1 w (omega arith)) (lt-leb w (n - 1) (omega arith)))
      (λ (h : count ≤ i). unused_one h ∙ ne_eqb w 0 (λ (z : w ≡ 0). omega arith)) (lt? i count)

  -- Zero exactly where unused.
  odd : beq (not (eqb w 0)) (ltb i count) ≡ false → branch_fits n count i w ≡ false
  odd e =
      ⊎_elim (λ (h : i < count).
      let z = is_zero_lem (eqb w 0) (ap (beq (not (eqb w 0))) (sym (lt-ltb i count h)) ∙ e) in
      used_one h ∙ ap (λ (b : Bool). b && leb w (n - 1)) (lt-leb 1 w (let y = eqb-true w 0 z in omega arith)))
      (λ (h : count ≤ i). unused_one h ∙ not_zero (eqb w 0) (ap (beq (not (eqb w 0))) (sym (le-ltb i count h)) ∙ e)) (lt? i count)
    where
      is_zero_lem : (z : Bool) → beq (not z) true ≡ false → z ≡ true
      is_zero_lem true y = refl
      is_zero_lem false y = absurd (true≢false y)

      not_zero : (z : Bool) → beq (not z) false ≡ false → z ≡ false
      not_zero true y = absurd (true≢false y)
      not_zero false y = refl

  even : w < n → beq (not (eqb w 0)) (ltb i count) ≡ true → branch_fits n count i w ≡ true
  even near e =
      ⊎_elim (λ (h : i < count).
      let z = not_zero (eqb w 0) (ap (beq (not (eqb w 0))) (sym (lt-ltb i count h)) ∙ e) in
      let low : 1 ≤ w =
      ⊎_elim (λ (y : w < 1). absurd (true≢false (sym (eq-eqb w 0 (omega arith)) ∙ z))) (λ (y : 1 ≤ w). y) (lt? w 1) in
      used_one h ∙ ap₂ (λ (a b : Bool). a && b) (le-leb 1 w low) (le-leb w (n - 1) (omega arith)))
      (λ (h : count ≤ i). unused_one h ∙ is_zero_lem (eqb w 0) (ap (beq (not (eqb w 0))) (sym (le-ltb i count h)) ∙ e)) (lt? i count)
    where
      not_zero : (z : Bool) → beq (not z) true ≡ true → z ≡ false
      not_zero true y = absurd (true≢false (sym y))
      not_zero false y = refl

      is_zero_lem : (z : Bool) → beq (not z) false ≡ true → z ≡ true
      is_zero_lem true y = refl
      is_zero_lem false y = absurd (true≢false (sym y))

  pub branch_is : (good : Bool) → (good && ltb w n && beq (not (eqb w 0)) (ltb i count)) ≡ (good && branch_fits n count i w)
  branch_is good =
      ⊎_elim (λ (h : w < n).
      ⊎_elim (λ (e : beq (not (eqb w 0)) (ltb i count) ≡ true). rw (lt-ltb w n h, e, even h e) (kept good))
      (λ (e : beq (not (eqb w 0)) (ltb i count) ≡ false). rw (lt-ltb w n h, e, odd e) (lost good)) (bool? (beq (not (eqb w 0)) (ltb i count))))
      (λ (h : n ≤ w). rw (le-ltb w n h, past h) (far good (beq (not (eqb w 0)) (ltb i count)))) (lt? w n)
    where
      kept : (b : Bool) → (b && true && true) ≡ (b && true)
      kept true = refl
      kept false = refl

      lost : (b : Bool) → (b && true && false) ≡ (b && false)
      lost true = refl
      lost false = refl

      far : (b c : Bool) → (b && false && c) ≡ (b && false)
      far true c = refl
      far false c = refl

-- There is room for 24.
pub branch_room_lem : (bytes : List ℕ) → length bytes ≡ 512 → length (branch_words (words_of bytes)) ≡ 24
branch_room_lem bytes e =
    let w = length_words_of bytes in
    let d = length-drop 8 (words_of bytes) in
    length-take-le 24 (drop 8 (words_of bytes)) (omega arith)

-- A loop over all of them.
pub each_none : (test : ℕ → Bool) → true ≡ all_below test 0
unfolding all_below
each_none test = refl

pub each_next : (test : ℕ → Bool) (i : ℕ) (good after : Bool) → good ≡ all_below test i → after ≡ (good && test i) → after ≡ all_below test (i + 1)
unfolding all_below
each_next test i good after e f = rw add-one (f ∙ ap (λ (b : Bool). b && test i) e)

-- The first of them apart.
first_apart : (test : ℕ → Bool) (m : ℕ) → all_below test (suc m) ≡ (test 0 && all_below (λ k. test (suc k)) m)
unfolding all_below
first_apart test zero = turned (test 0)
  where
    turned : (a : Bool) → (true && a) ≡ (a && true)
    turned true = refl
    turned false = refl
first_apart test (suc m) = ap (λ (b : Bool). b && test (suc m)) (first_apart test m) ∙ grouped (test 0) (all_below (λ k. test (suc k)) m) (test (suc m))
  where
    grouped : (a b c : Bool) → ((a && b) && c) ≡ (a && (b && c))
    grouped true b c = refl
    grouped false b c = refl

module _ (n : ℕ) where
  later : (count k w : ℕ) → branch_fits n (suc count) (suc k) w ≡ branch_fits n count k w
  unfolding branch_fits
  later count k w =
      ap (λ (b : Bool). cond b (within 1 (n - 1) w) (is_zero w))
      (⊎_elim (λ (h : k < count). lt-ltb (suc k) (suc count) (omega arith) ∙ sym (lt-ltb k count h))
      (λ (h : count ≤ k). le-ltb (suc k) (suc count) (omega arith) ∙ sym (le-ltb k count h)) (lt? k count))

  unused : (k w : ℕ) → branch_fits n 0 k w ≡ is_zero w
  unfolding branch_fits
  unused k w = cond_false (ltb k 0) (within 1 (n - 1) w) (is_zero w) (le-ltb k 0 (omega arith))

  used_first : (count w : ℕ) → branch_fits n (suc count) 0 w ≡ within 1 (n - 1) w
  unfolding branch_fits
  used_first count w = cond_true (ltb 0 (suc count)) (within 1 (n - 1) w) (is_zero w) (lt-ltb 0 (suc count) (omega arith))

  none_used : (bs : List ℕ) → all_below (λ k. is_zero (at bs k)) (length bs) ≡ all is_zero bs
  unfolding all_below all
  none_used [] = refl
  none_used (x ∷ bs) =
      first_apart (λ k. is_zero (at (x ∷ bs) k)) (length bs) ∙ ap (λ (b : Bool). is_zero x && b) (none_used bs)

  each_fits : (count : ℕ) (bs : List ℕ) → all_below (λ k. branch_fits n count k (at bs k)) (length bs) ≡ branches_fit n count bs
  unfolding branches_fit all all_below
  each_fits zero bs = ap (λ (f : ℕ → Bool). all_below f (length bs)) (fun_ext (λ k. unused k (at bs k))) ∙ none_used bs
  each_fits (suc count) [] = refl
  each_fits (suc count) (x ∷ bs) =
      first_apart (λ k. branch_fits n (suc count) k (at (x ∷ bs) k)) (length bs)
      ∙ ap₂ (λ (a b : Bool). a && b) (used_first count x) (ap (λ (f : ℕ → Bool). all_below f (length bs)) (fun_ext (λ k. later count k (at bs k))) ∙ each_fits count bs)
      ∙ grouped (within 1 (n - 1) x) (all (within 1 (n - 1)) (take count bs)) (all is_zero (drop count bs))
    where
      grouped : (a b c : Bool) → (a && (b && c)) ≡ ((a && b) && c)
      grouped true b c = refl
      grouped false b c = refl

  pub each_branch : (count i : ℕ) (bs : List ℕ) (good : Bool) → length bs ≡ i → good ≡ all_below (λ k. branch_fits n count k (at bs k)) i → good ≡ branches_fit n count bs
  each_branch count i bs good e f = f ∙ ap (all_below (λ k. branch_fits n count k (at bs k))) (sym e) ∙ each_fits count bs
