-- Live numbers: the loops over them, each against its definition at the loop's index.
use Prim.Native.Nat.{ℕ, zero, suc, ◌+◌, ◌%◌, ◌≤◌, ◌<◌}
use mathlib.Core.Path.{◌≡◌, refl, sym, ◌∙◌, ap, subst}
use mathlib.Core.Logic.{⊎_elim}
use mathlib.Core.Bool.{Bool, true, false, not, ◌&&◌, ◌||◌, true≢false}
use mathlib.Core.List.{List, []}
use native.Mathlib.Nat.{eq-or-lt_of_le, le_of_suc-le-suc}
use native.Mathlib.Numerals.{add-one}
use native.Mathlib.Omega.{arith}
use lib.Dec.{eqb, leb, ltb}
use borrow.Author.Tests.{eq-eqb, lt-ltb, le-ltb, ne_eqb}
use Rattle.std.proofs.Math.Bool.{or_comm}
use Rattle.layout.specs.Bounded.{all_below, best, elem, distinct, always, gathered, updated}
use Rattle.names.proofs.Marking.{not_false}
use Rattle.laws.proofs.Bounded.{bool?, lt?, eq?, clash, not_of, and_i, cond_true, cond_false, all_below_at, distinct_rest, distinct_cons, gathered_has}

-- A test that fails below a bound.
pub all_below_not : (test : ℕ → Bool) (n k : ℕ) → k < n → test k ≡ false → false ≡ all_below test n
all_below_not test n k h e =
    ⊎_elim (λ (z : all_below test n ≡ true). clash (test k) (all_below_at test n z k h) e) (λ (z : all_below test n ≡ false). sym z)
    (bool? (all_below test n))

pub all_below_none : (test : ℕ → Bool) → all_below test 0 ≡ true
unfolding all_below
all_below_none test = refl

pub all_below_more : (test : ℕ → Bool) (k : ℕ) → all_below test k ≡ true → test k ≡ true → all_below test (k + 1) ≡ true
unfolding all_below
all_below_more test k e f = rw add-one (and_i (all_below test k) (test k) e f)

module _ (num : ℕ → ℕ) where
  -- The numbers below a bound.
  abbrev Those : ℕ → List ℕ
  Those n = gathered always num [] n

  pub elem_none : (x : ℕ) → elem x (Those 0) ≡ false
  unfolding gathered elem
  elem_none x = refl

  pub elem_next : (x j : ℕ) (found found' : Bool) → found ≡ elem x (Those j) → found' ≡ (found || eqb x (num j)) → found' ≡ elem x (Those (j + 1))
  unfolding gathered elem
  elem_next x j found found' e f = rw add-one (f ∙ or_comm found (eqb x (num j)) ∙ ap (λ (b : Bool). eqb x (num j) || b) e)

  pub distinct_none : distinct (Those 0) ≡ true
  unfolding gathered distinct
  distinct_none = refl

  pub distinct_more : (i : ℕ) → distinct (Those i) ≡ true → elem (num i) (Those i) ≡ false → distinct (Those (i + 1)) ≡ true
  unfolding gathered
  distinct_more i e f = rw add-one (distinct_cons (num i) (Those i) f e)

  distinct_shorter : (i m : ℕ) → i ≤ m → distinct (Those m) ≡ true → distinct (Those i) ≡ true
  unfolding gathered
  distinct_shorter i zero h e =
      let z : 0 ≡ i = omega arith in
      subst (λ (x : ℕ). distinct (Those x) ≡ true) z e
  distinct_shorter i (suc m) h e =
      ⊎_elim (λ (z : i ≡ suc m). subst (λ (x : ℕ). distinct (Those x) ≡ true) (sym z) e)
      (λ (z : i < suc m). distinct_shorter i m (le_of_suc-le-suc z) (distinct_rest (num m) (Those m) e)) (eq-or-lt_of_le h)

  pub distinct_not : (i m : ℕ) → i < m → elem (num i) (Those i) ≡ true → false ≡ distinct (Those m)
  unfolding gathered distinct
  distinct_not i m h e =
      ⊎_elim (λ (z : distinct (Those m) ≡ true).
      clash (distinct (Those (suc i))) (distinct_shorter (suc i) m h z) (ap (λ (b : Bool). not b && distinct (Those i)) e))
      (λ (z : distinct (Those m) ≡ false). sym z) (bool? (distinct (Those m)))

  -- Those below i are distinct, and their residues are marked.
  abbrev pub Residues : (ℕ → Bool) → ℕ → Type 0
  Residues bits i = (distinct (Those i) ≡ true) × ((j : ℕ) → j < i → bits (num j % 65536) ≡ true)

  new_residue : (bits : ℕ → Bool) (i : ℕ) → Residues bits i → bits (num i % 65536) ≡ false → elem (num i) (Those i) ≡ false
  unfolding elem
  new_residue bits i m e =
      ⊎_elim (λ (z : elem (num i) (Those i) ≡ true).
      ⊎_elim (λ (y : elem (num i) [] ≡ true). absurd (true≢false (sym y)))
      (λ (y : (k : ℕ) × (k < i) × (always k ≡ true) × (num k ≡ num i)).
      absurd (true≢false (sym (m.1 y.0 y.1) ∙ ap (λ (x : ℕ). bits (x % 65536)) y.3 ∙ e)))
      (gathered_has always num [] i (num i) z))
      (λ (z : elem (num i) (Those i) ≡ false). z) (bool? (elem (num i) (Those i)))

  pub residues_more : (bits after : ℕ → Bool) (i : ℕ) → Residues bits i → (r : ℕ) → r ≡ num i % 65536 → (b : Bool) → b ≡ bits r → b ≡ false → after ≡ updated bits r true
      → Residues after (i + 1)
  residues_more bits after i m r is b e f u = (
    distinct_more i m.0 (new_residue bits i m (ap bits (sym is) ∙ sym e ∙ f)),
    λ j h.
        ap (λ (g : ℕ → Bool). g (num j % 65536)) u
        ∙ ⊎_elim (λ (z : num j % 65536 ≡ r). cond_true (eqb (num j % 65536) r) true (bits (num j % 65536)) (eq-eqb (num j % 65536) r z))
        (λ (d : num j % 65536 ≡ r → ⊥).
        cond_false (eqb (num j % 65536) r) true (bits (num j % 65536)) (ne_eqb (num j % 65536) r d)
        ∙ ⊎_elim (λ (y : j < i). m.1 j y)
        (λ (y : i ≤ j). let z : j ≡ i = omega arith in absurd (d (ap (λ (x : ℕ). num x % 65536) z ∙ sym is))) (lt? j i))
        (eq? (num j % 65536) r),
  )

  -- The greatest so far.
  pub best_zero : 0 ≡ best num 0
  unfolding best
  best_zero = refl

  pub best_new : (i found : ℕ) → found ≡ best num i → num found < num i → i ≡ best num (i + 1)
  unfolding best
  best_new i found e h =
      rw add-one
      (sym (cond_true (ltb (num (best num i)) (num i)) i (best num i) (lt-ltb _ _ (subst (λ (x : ℕ). num x < num i) e h))))

  pub best_stays : (i found : ℕ) → found ≡ best num i → num i ≤ num found → found ≡ best num (i + 1)
  unfolding best
  best_stays i found e h =
      rw add-one
      (e ∙ sym (cond_false (ltb (num (best num i)) (num i)) i (best num i) (le-ltb _ _ (subst (λ (x : ℕ). num i ≤ num x) e h))))

-- Four tests, in their order.
module _ (a b c d : Bool) where
  four_first : a ≡ false → false ≡ (a && b && c && d)
  four_first e = rw e refl

  four_second : a ≡ true → b ≡ false → false ≡ (a && b && c && d)
  four_second e f = rw (e, f) refl

  four_third : a ≡ true → b ≡ true → c ≡ false → false ≡ (a && b && c && d)
  four_third e f g = rw (e, f, g) refl

  four_last : a ≡ true → b ≡ true → c ≡ true → d ≡ (a && b && c && d)
  four_last e f g = rw (e, f, g) refl

-- The numbers agree with the tail.
module _ (place num : ℕ → ℕ) (p tail number : ℕ) where
  abbrev Apart : Bool
  Apart = distinct (gathered always num [] p)

  abbrev From1 : Bool
  From1 = all_below (λ q. leb 1 (num q)) p

  abbrev Tail : Bool
  Tail = eqb tail (place (best num p))

  abbrev Newest : Bool
  Newest = eqb number (num (best num p))

  abbrev pub Agree : Bool
  Agree = Apart && From1 && Tail && Newest

  module _ (r : Bool) (e : r ≡ Apart) where
    pub agree_apart : not r ≡ true → false ≡ Agree
    agree_apart f = four_first Apart From1 Tail Newest (sym e ∙ not_of r f)

    module _ (f : not r ≡ false) (s : Bool) (g : s ≡ From1) where
      pub agree_from1 : not s ≡ true → false ≡ Agree
      agree_from1 h = four_second Apart From1 Tail Newest (sym e ∙ not_false r f) (sym g ∙ not_of s h)

      module _ (h : not s ≡ false) (q : ℕ) (b : q ≡ best num p) where
        pub agree_tail : (tail ≡ place q → ⊥) → false ≡ Agree
        agree_tail d =
            four_third Apart From1 Tail Newest (sym e ∙ not_false r f) (sym g ∙ not_false s h)
            (ne_eqb tail (place (best num p)) (subst (λ (x : ℕ). tail ≡ place x → ⊥) b d))

        pub agree_number : tail ≡ place q → eqb number (num q) ≡ Agree
        agree_number d =
            ap (λ (x : ℕ). eqb number (num x)) b
            ∙ four_last Apart From1 Tail Newest (sym e ∙ not_false r f) (sym g ∙ not_false s h)
            (eq-eqb tail (place (best num p)) (subst (λ (x : ℕ). tail ≡ place x) b d))
