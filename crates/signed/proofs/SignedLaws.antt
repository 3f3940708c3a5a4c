-- Bits set one after the other.
use Prim.Native.Nat.{ℕ, suc, ◌+◌, ◌/◌, ◌%◌, ◌^◌, ◌≤◌, ◌<◌}
use mathlib.Core.Path.{◌≡◌, refl, sym, ◌∙◌, ap, fun_ext}
use mathlib.Core.Logic.{⊎_elim}
use mathlib.Core.Bool.{Bool, true, false, not}
use mathlib.Core.List.{List}
use native.Mathlib.Nat.{zero-div}
use native.Mathlib.Numerals.{add-one}
use native.Mathlib.Omega.{arith}
use lib.ListN.{replicate}
use lib.Dec.{eqb, ltb}
use borrow.Author.Tests.{eqb-true, eq-eqb, ne_eqb, lt-ltb, le-ltb, not-false}
use Rattle.geometry.specs.declared.Geometry.{Geometry}
use Rattle.layout.specs.Bounded.{is_zero, updated}
use Rattle.layout.specs.Word.{words_of}
use Rattle.layout.specs.MapSector.{View, valid}
use Rattle.volume.specs.Tables.{bit_at}
use Rattle.volume.specs.Recover.{number_in, signed_numbers, is_uncommitted}
use Rattle.laws.proofs.Filling.{zeros_get}
use Rattle.laws.proofs.Bounded.{bool?, lt?, eq?, cond_true, cond_false}
use Rattle.signed.specs.Signed.{below, is_signed, signed_sectors, stepped, marked_above}
use Rattle.signed.proofs.Listing.{stepped_all}

module _ (test : ℕ → Bool) (k : ℕ) where
  other : (j : ℕ) → (j ≡ k → ⊥) → ltb j k ≡ ltb j (suc k)
  other j d = ⊎_elim (λ (h : j < k). lt-ltb j k h ∙ sym (lt-ltb j (suc k) (omega arith))) (λ (h : k ≤ j). le-ltb j k h ∙ sym (le-ltb j (suc k) (omega arith))) (lt? j k)

  pub below_hit : test k ≡ true → updated (below test k) k true ≡ below test (k + 1)
  unfolding below
  below_hit e =
      rw add-one (fun_ext (λ j.
      ⊎_elim (λ (z : j ≡ k). rw (eq-eqb j k z, lt-ltb j (suc k) (omega arith), ap test z ∙ e) refl)
      (λ (z : j ≡ k → ⊥). rw (ne_eqb j k z, other j z) refl) (eq? j k)))

  pub below_miss : test k ≡ false → below test k ≡ below test (k + 1)
  unfolding below
  below_miss e =
      rw add-one (fun_ext (λ j.
      ⊎_elim (λ (z : j ≡ k). rw (le-ltb j k (omega arith), ap test z ∙ e, lt-ltb j (suc k) (omega arith)) refl)
      (λ (z : j ≡ k → ⊥). rw (other j z) refl) (eq? j k)))

pub below_none : (test : ℕ → Bool) → (λ _. false) ≡ below test 0
unfolding below
below_none test = fun_ext (λ j. rw (le-ltb j 0 (omega arith)) refl)

-- Zeros.
pub marks_none : (us : List ℕ) (n : ℕ) → us ≡ replicate n 0 → bit_at us ≡ (λ _. false)
unfolding bit_at
marks_none us n e =
    ap bit_at e
    ∙ fun_ext (λ k.
    ap (λ (x : ℕ). eqb (x / 2 ^ (k % 8) % 2) 1) (zeros_get n (k / 8)) ∙ ap (λ (x : ℕ). eqb (x % 2) 1) (zero-div (2 ^ (k % 8))))

-- One that is listed.
module _ (c k x y : ℕ) (bits : ℕ → Bool) where
  pub marked_not : x ≤ c → bits ≡ marked_above c k x y bits
  unfolding marked_above
  marked_not h = sym (cond_false (ltb c x) (updated bits k true) bits (le-ltb c x h))

  pub marked_so : (after : ℕ → Bool) → c < x → after ≡ updated bits k true → after ≡ marked_above c k x y bits
  unfolding marked_above
  marked_so after h e = e ∙ sym (cond_true (ltb c x) (updated bits k true) bits (lt-ltb c x h))

-- The marks of those that are listed are those of the sectors.
module _ (view : View) (c : ℕ) where
  one_marked : (k : ℕ) (bits : ℕ → Bool) → bits ≡ below (is_uncommitted view c) k → marked_above c k (number_in (view k)) (number_in (view k)) bits ≡ below (is_uncommitted view c) (suc k)
  unfolding marked_above
  one_marked k bits e =
      ⊎_elim (λ (t : ltb c (number_in (view k)) ≡ true).
      cond_true (ltb c (number_in (view k))) (updated bits k true) bits t ∙ ap (λ (f : ℕ → Bool). updated f k true) e ∙ below_hit (is_uncommitted view c) k t ∙ ap (below (is_uncommitted view c)) (add-one k))
      (λ (t : ltb c (number_in (view k)) ≡ false).
      cond_false (ltb c (number_in (view k))) (updated bits k true) bits t ∙ e ∙ below_miss (is_uncommitted view c) k t ∙ ap (below (is_uncommitted view c)) (add-one k)) (bool? (ltb c (number_in (view k))))

  pub above_listed : (n : ℕ) (sectors numbers : List ℕ) (start bits : ℕ → Bool) → sectors ≡ signed_sectors view n → numbers ≡ signed_numbers view n
      → start ≡ (λ _. false) → bits ≡ stepped (marked_above c) sectors numbers numbers start → bits ≡ below (is_uncommitted view c) n
  unfolding signed_sectors signed_numbers
  above_listed n sectors numbers start bits e f s b =
      b ∙ ap (λ (ks : List ℕ). stepped (marked_above c) ks numbers numbers start) e
      ∙ ap (λ (xs : List ℕ). stepped (marked_above c) (signed_sectors view n) xs xs start) f
      ∙ stepped_all (marked_above c) (λ k. not (is_zero (number_in (view k)))) (λ k. number_in (view k)) (λ k. number_in (view k))
      (λ k t. t ≡ below (is_uncommitted view c) k) start (s ∙ below_none (is_uncommitted view c))
      (λ k t e h. h ∙ below_miss (is_uncommitted view c) k (none_above k e) ∙ ap (below (is_uncommitted view c)) (add-one k)) (λ k t e h. one_marked k t h) n
    where
      none_above : (k : ℕ) → not (is_zero (number_in (view k))) ≡ false → ltb c (number_in (view k)) ≡ false
      none_above k e = le-ltb c (number_in (view k)) (let z = eqb-true (number_in (view k)) 0 (not-false (is_zero (number_in (view k))) e) in omega arith)

pub is_signed_lem : (g : Geometry) (image : ℕ → List ℕ) (k : ℕ) (s : List ℕ) (r v : Bool) → s ≡ image k → r ≡ valid g s (words_of s) → r ≡ v → is_signed g image k ≡ v
unfolding is_signed
is_signed_lem g image k s r v e f u = ap (λ (x : List ℕ). valid g x (words_of x)) (sym e) ∙ sym f ∙ u
