-- Tests over lists: two lists are the same, or every number of a list passes.
use Prim.Native.Nat.{ℕ, zero, suc, ◌+◌, ◌≤◌, ◌<◌}
use mathlib.Core.Bool.{Bool, true, false, ◌&&◌}
use mathlib.Core.Path.{◌≡◌, refl, sym, ap, ◌∙◌}
use mathlib.Core.List.{List, [], ◌∷◌}
use native.Mathlib.Omega.{arith}
use native.Mathlib.Numerals.{add-one}
use lib.ListN.{length, take, drop, drop_of_length-le}
use lib.Seq.{ext_get_or, length-take-le, get_or-take, take_all, drop-cons, slice, slice-cons, slice_empty}
use lib.Dec.{eqb, leb-zero, leb-suc-zero, eqb-suc-zero}
use borrow.Author.Tests.{eq-eqb, eqb-true, le-leb, lt-leb}
use Rattle.geometry.specs.Geometry.{within}
use Rattle.layout.specs.Bounded.{at, same, all, is_zero}
use Rattle.layout.specs.Word.{starts_with}

pub same_is : (xs : List ℕ) → same xs xs ≡ true
unfolding same
same_is [] = refl
same_is (x ∷ xs) = rw (eq-eqb x x refl) (same_is xs)

refuted : (a b : Bool) → (a ≡ true → b ≡ false) → (a && b) ≡ false
refuted true b h = h refl
refuted false b h = refl

-- Lists that differ somewhere are not the same.
pub same_not : (xs ys : List ℕ) → (xs ≡ ys → ⊥) → same xs ys ≡ false
unfolding same
same_not [] [] h = absurd (h refl)
same_not [] (y ∷ ys) h = refl
same_not (x ∷ xs) [] h = refl
same_not (x ∷ xs) (y ∷ ys) h =
    refuted (eqb x y) (same xs ys) (λ e. same_not xs ys (λ t. h (ap (λ (z : ℕ). z ∷ xs) (eqb-true x y e) ∙ ap (λ (l : List ℕ). y ∷ l) t)))

-- A block that is shorter than the mark, differs from it at some byte, or agrees with it at every byte.
pub starts_short : (mark bs : List ℕ) → length bs < length mark → starts_with mark bs ≡ false
unfolding starts_with
starts_short mark bs h =
    same_not (take (length mark) bs) mark
    (λ e. let l : length (take (length mark) bs) ≡ length bs = ap length (take_all (length mark) bs (omega arith)) in omega (arith, ap length e))

pub starts_differs : (mark bs : List ℕ) (i : ℕ) → i < length mark → (at bs i ≡ at mark i → ⊥) → starts_with mark bs ≡ false
unfolding starts_with
starts_differs mark bs i h d =
    same_not (take (length mark) bs) mark (λ e. d (sym (get_or-take (length mark) bs i 0 h) ∙ ap (λ (l : List ℕ). at l i) e))

pub starts_agrees : (mark bs : List ℕ) → length mark ≤ length bs → ((i : ℕ) → i < length mark → at bs i ≡ at mark i) → starts_with mark bs ≡ true
unfolding starts_with
starts_agrees mark bs h f =
    let long : length (take (length mark) bs) ≡ length mark = length-take-le (length mark) bs h in
    let e : take (length mark) bs ≡ mark = ext_get_or 0 (take (length mark) bs) mark long
    (λ i k. let k' : i < length mark = omega arith in get_or-take (length mark) bs i 0 k' ∙ f i k') in
    rw e (same_is mark)

-- A loop that tests one number after the other: what is left decides.
module _ (test : ℕ → Bool) (xs : List ℕ) (i : ℕ) where
  pub all_pass : i < length xs → test (at xs i) ≡ true → all test (drop i xs) ≡ all test (drop (i + 1) xs)
  unfolding all
  all_pass h t = rw (drop-cons xs i 0 h, t, add-one)

  pub all_fail : i < length xs → test (at xs i) ≡ false → all test (drop i xs) ≡ false
  unfolding all
  all_fail h t = rw (drop-cons xs i 0 h, t)

  pub all_end : length xs ≤ i → all test (drop i xs) ≡ true
  unfolding all
  all_end h = rw (drop_of_length-le xs h)

-- The same over the part of a list from `from` to `end`.
module _ (test : ℕ → Bool) (xs : List ℕ) (from end : ℕ) (bound : end ≤ length xs) where
  pub part_pass : from < end → test (at xs from) ≡ true → all test (slice from end xs) ≡ all test (slice (from + 1) end xs)
  unfolding all
  part_pass h t = rw (slice-cons from end xs 0 h bound, t, add-one)

  pub part_fail : from < end → test (at xs from) ≡ false → all test (slice from end xs) ≡ false
  unfolding all
  part_fail h t = rw (slice-cons from end xs 0 h bound, t)

pub part_end : (test : ℕ → Bool) (xs : List ℕ) (from end : ℕ) → from ≡ end → all test (slice from end xs) ≡ true
unfolding all
part_end test xs from end e = rw (e, slice_empty end xs)

-- Tests that agree on every number.
pub all_alike : (p q : ℕ → Bool) → ((x : ℕ) → p x ≡ q x) → (xs : List ℕ) → all p xs ≡ all q xs
unfolding all
all_alike p q h [] = refl
all_alike p q h (x ∷ xs) = rw (h x, all_alike p q h xs)

pub within_zero : (x : ℕ) → within 0 0 x ≡ is_zero x
within_zero zero = refl
within_zero (suc x) = rw (leb-zero (suc x), leb-suc-zero x, eqb-suc-zero x)

module _ (low high x : ℕ) where
  pub within_below : x < low → within low high x ≡ false
  within_below h = rw (lt-leb low x h)

  pub within_above : low ≤ x → high < x → within low high x ≡ false
  within_above h k = rw (le-leb low x h, lt-leb x high k)

  pub within_both : low ≤ x → x ≤ high → within low high x ≡ true
  within_both h k = rw (le-leb low x h, le-leb x high k)
