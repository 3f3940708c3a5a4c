-- Distinct numbers as lists in which no two indices have one number, and the map of residues.
use Prim.Native.Nat.{ℕ, zero, suc, ◌%◌, ◌≤◌, ◌<◌}
use mathlib.Core.Path.{◌≡◌, refl, sym, subst}
use mathlib.Core.Logic.{⊎_elim}
use mathlib.Core.Bool.{true, false}
use mathlib.Core.List.{List, [], ◌∷◌}
use native.Mathlib.Nat.{not-suc-le-zero, le_of_suc-le-suc}
use native.Mathlib.Omega.{arith}
use lib.ListN.{length}
use Rattle.layout.specs.Bounded.{at, elem, distinct}
use Rattle.laws.proofs.Bounded.{bool?, clash, elem_cons, elem_here, elem_there, distinct_head, distinct_rest, distinct_cons, not_elem}

elem_at : (k : ℕ) (xs : List ℕ) → elem k xs ≡ true → (i : ℕ) × (i < length xs) × (at xs i ≡ k)
unfolding elem
elem_at k [] e = clash false e refl
elem_at k (x ∷ xs) e =
    ⊎_elim (λ (z : k ≡ x). (0, omega arith, sym z))
    (λ (z : elem k xs ≡ true). let r = elem_at k xs z in let h = r.1 in (suc r.0, omega arith, r.2)) (elem_cons k x xs e)

at_elem : (xs : List ℕ) (i : ℕ) → i < length xs → elem (at xs i) xs ≡ true
at_elem [] i h = absurd (not-suc-le-zero h)
at_elem (x ∷ xs) zero h = elem_here x xs
at_elem (x ∷ xs) (suc i) h = elem_there (at xs i) x xs (at_elem xs i (le_of_suc-le-suc h))

-- The numbers below an index are all different.
abbrev pub Differ : List ℕ → ℕ → Type 0
Differ xs n = (i j : ℕ) → i < j → j < n → at xs i ≡ at xs j → ⊥

pub differ_distinct : (xs : List ℕ) → Differ xs (length xs) → distinct xs ≡ true
unfolding distinct
differ_distinct [] f = refl
differ_distinct (x ∷ xs) f =
    distinct_cons x xs
    (not_elem x xs (λ (e : elem x xs ≡ true).
    let r = elem_at x xs e in
    let h = r.1 in
    f 0 (suc r.0) (omega arith) (omega arith) (sym r.2)))
    (differ_distinct xs (λ i j h g e. f (suc i) (suc j) (omega arith) (omega arith) e))

distinct_differ : (xs : List ℕ) → distinct xs ≡ true → Differ xs (length xs)
distinct_differ [] e i j h g f = absurd (not-suc-le-zero g)
distinct_differ (x ∷ xs) e i zero h g f = absurd (not-suc-le-zero h)
distinct_differ (x ∷ xs) e zero (suc j) h g f =
    clash (elem x xs) (subst (λ (y : ℕ). elem y xs ≡ true) (sym f) (at_elem xs j (le_of_suc-le-suc g))) (distinct_head x xs e)
distinct_differ (x ∷ xs) e (suc i) (suc j) h g f =
    distinct_differ xs (distinct_rest x xs e) i j (le_of_suc-le-suc h) (le_of_suc-le-suc g) f

pub equal_distinct : (xs : List ℕ) (i j : ℕ) → i < j → j < length xs → at xs i ≡ at xs j → distinct xs ≡ false
equal_distinct xs i j h g f =
    ⊎_elim (λ (e : distinct xs ≡ true). absurd (distinct_differ xs e i j h g f)) (λ (e : distinct xs ≡ false). e) (bool? (distinct xs))

-- The residues of the numbers below i are marked, in bytes or in bits, and no two agree.
module _ {A : Type 0} (mark : A) (m : ℕ) (xs : List ℕ) where
  abbrev residue : ℕ → ℕ
  residue j = at xs j % m

  pub record Residues (seen : ℕ → A) (i : ℕ) : Type 0 where
    pub marked : (j : ℕ) → j < i → seen (residue j) ≡ mark
    pub differ : Differ xs i

  pub residues_distinct : (seen : ℕ → A) (i : ℕ) → Residues seen i → length xs ≤ i → distinct xs ≡ true
  residues_distinct seen i r h = differ_distinct xs (λ j k a b. r.differ j k a (omega arith))
