-- What stands in a sector after a run of stores, whole or cut.
use Prim.Native.Nat.{ℕ, zero, suc, ◌<◌}
use mathlib.Core.Path.{◌≡◌, refl, sym, ◌∙◌, ap, subst}
use mathlib.Core.Logic.{◌⊎◌, inl, inr, ⊎_elim}
use mathlib.Core.Bool.{Bool, true, false}
use mathlib.Core.List.{List, [], ◌∷◌, ◌++◌}
use native.Mathlib.Nat.{le_of_suc-le-suc, not-suc-le-zero}
use native.Mathlib.Omega.{arith}
use lib.ListN.{length, take, length-append}
use Rattle.layout.specs.Bounded.{count_below, updated}
use Rattle.volume.specs.Store.{Store, applied, stores_below}
use Rattle.laws.proofs.Bounded.{bool?, eq?, cond_true, cond_false, updated_here, updated_other, suc_cases, count_hit, count_miss}

-- A store is one of a list.
pub data Among (s : Store) : List Store → Type 0 where
  first : {ss : List Store} → Among s (s ∷ ss)
  later : {r : Store} {ss : List Store} → Among s ss → Among s (r ∷ ss)

pub among_none : {s : Store} → Among s [] → ⊥
among_none a = none a refl
  where
    none : {s : Store} {ss : List Store} → Among s ss → ss ≡ [] → ⊥
    none first e = let z : ◌≡◌ {A = ℕ} 0 1 = cc in omega arith
    none (later a) e = let z : ◌≡◌ {A = ℕ} 0 1 = cc in omega arith

pub among_cases : (s r : Store) (ss : List Store) → Among s (r ∷ ss) → (s ≡ r) ⊎ Among s ss
among_cases s r ss first = inl refl
among_cases s r ss (later a) = inr a

pub among_append : (s : Store) (xs ys : List Store) → Among s (xs ++ ys) → Among s xs ⊎ Among s ys
among_append s [] ys a = inr a
among_append s (x ∷ xs) ys a =
    ⊎_elim (λ (e : s ≡ x). inl (subst (λ (z : Store). Among s (z ∷ xs)) e first))
    (λ (b : Among s (xs ++ ys)). ⊎_elim (λ c. inl (later c)) inr (among_append s xs ys b)) (among_cases s x (xs ++ ys) a)

pub among_left : {s : Store} {xs : List Store} (ys : List Store) → Among s xs → Among s (xs ++ ys)
among_left ys first = first
among_left ys (later a) = later (among_left ys a)

pub among_right : {s : Store} (xs : List Store) {ys : List Store} → Among s ys → Among s (xs ++ ys)
among_right [] a = a
among_right (x ∷ xs) a = later (among_right xs a)

pub among_take : (s : Store) (k : ℕ) (ss : List Store) → Among s (take k ss) → Among s ss
among_take s zero ss a = absurd (among_none a)
among_take s (suc k) [] a = absurd (among_none a)
among_take s (suc k) (r ∷ ss) a =
    ⊎_elim (λ (e : s ≡ r). subst (λ (z : Store). Among s (z ∷ ss)) e first) (λ b. later (among_take s k ss b))
    (among_cases s r (take k ss) a)

-- Fewer than all: none of them is the last.
pub among_cut : (s : Store) (k : ℕ) (xs : List Store) (r : Store) → k < length (xs ++ (r ∷ [])) → Among s (take k (xs ++ (r ∷ []))) → Among s xs
among_cut s zero xs r h a = absurd (among_none a)
among_cut s (suc k) [] r h a = absurd (not-suc-le-zero (le_of_suc-le-suc h))
among_cut s (suc k) (x ∷ xs) r h a =
    ⊎_elim (λ (e : s ≡ x). subst (λ (z : Store). Among s (z ∷ xs)) e first)
    (λ b. later (among_cut s k xs r (le_of_suc-le-suc h) b)) (among_cases s x (take k (xs ++ (r ∷ []))) a)

-- A sector is as it was and no store goes there, or it holds what some store of the list brings.
unfoldable pub Outcome : List Store → (ℕ → List ℕ) → ℕ → Type 0
Outcome ss image k =
    ((applied ss image k ≡ image k) × ((s : Store) → Among s ss → s.sector ≡ k → ⊥))
    ⊎ ((s : Store) × Among s ss × (s.sector ≡ k) × (applied ss image k ≡ s.bytes))

pub applied_cases : (ss : List Store) (image : ℕ → List ℕ) (k : ℕ) → Outcome ss image k
unfolding applied Outcome
applied_cases [] image k = inl (refl, λ s a e. among_none a)
applied_cases (r ∷ ss) image k =
    ⊎_elim (λ w.
    ⊎_elim (λ (e : r.sector ≡ k).
    inr (r, first, e, w.0 ∙ subst (λ (x : ℕ). updated image r.sector r.bytes x ≡ r.bytes) e (updated_here image r.sector r.bytes)))
    (λ (e : r.sector ≡ k → ⊥).
    inl (
      w.0 ∙ updated_other image r.sector k r.bytes (λ (z : k ≡ r.sector). e (sym z)),
      λ s a q. ⊎_elim (λ (z : s ≡ r). e (ap (λ (x : Store). x.sector) (sym z) ∙ q)) (λ b. w.1 s b q) (among_cases s r ss a),
    ))
    (eq? r.sector k))
    (λ w. inr (w.0, later w.1, w.2, w.3)) (applied_cases ss (updated image r.sector r.bytes) k)

pub applied_skip : (ss : List Store) (image : ℕ → List ℕ) (k : ℕ) → ((s : Store) → Among s ss → s.sector ≡ k → ⊥) → applied ss image k ≡ image k
unfolding Outcome
applied_skip ss image k f = ⊎_elim (λ w. w.0) (λ w. absurd (f w.0 w.1 w.2)) (applied_cases ss image k)

-- Where one sector has one store.
pub applied_at : (ss : List Store) (image : ℕ → List ℕ) (s : Store) → Among s ss
    → ((r : Store) → Among r ss → r.sector ≡ s.sector → r.bytes ≡ s.bytes) → applied ss image s.sector ≡ s.bytes
unfolding Outcome
applied_at ss image s a f =
    ⊎_elim (λ w. absurd (w.1 s a refl)) (λ w. w.3 ∙ f w.0 w.1 w.2) (applied_cases ss image s.sector)

module _ (which : ℕ → Bool) (store : ℕ → Store) where
  pub below_hit : (n : ℕ) → which n ≡ true → stores_below which store (suc n) ≡ stores_below which store n ++ (store n ∷ [])
  unfolding stores_below
  below_hit n e = cond_true (which n) (stores_below which store n ++ (store n ∷ [])) (stores_below which store n) e

  pub below_miss : (n : ℕ) → which n ≡ false → stores_below which store (suc n) ≡ stores_below which store n
  unfolding stores_below
  below_miss n e = cond_false (which n) (stores_below which store n ++ (store n ∷ [])) (stores_below which store n) e

  pub below_has : (n : ℕ) (s : Store) → Among s (stores_below which store n) → (i : ℕ) × (i < n) × (which i ≡ true) × (s ≡ store i)
  unfolding stores_below
  below_has zero s a = absurd (among_none a)
  below_has (suc n) s a =
      let later : Among s (stores_below which store n) → (i : ℕ) × (i < suc n) × (which i ≡ true) × (s ≡ store i) =
      λ b. let w = below_has n s b in (w.0, omega arith, w.2, w.3) in
      ⊎_elim (λ (z : which n ≡ true).
      ⊎_elim later (λ b. ⊎_elim (λ (e : s ≡ store n). (n, omega arith, z, e)) (λ c. absurd (among_none c)) (among_cases s (store n) [] b))
      (among_append s (stores_below which store n) (store n ∷ []) (rw (below_hit n z) at a)))
      (λ (z : which n ≡ false). later (rw (below_miss n z) at a)) (bool? (which n))

  pub below_own : (n i : ℕ) → i < n → which i ≡ true → Among (store i) (stores_below which store n)
  unfolding stores_below
  below_own zero i h e = absurd (not-suc-le-zero h)
  below_own (suc n) i h e =
      ⊎_elim (λ (z : i ≡ n). rw (below_hit n (ap which (sym z) ∙ e), z) (among_right (stores_below which store n) first))
      (λ (z : i < n).
      let r = below_own n i z e in
      ⊎_elim (λ (y : which n ≡ true). rw (below_hit n y) (among_left (store n ∷ []) r)) (λ (y : which n ≡ false). rw (below_miss n y) r)
      (bool? (which n)))
      (suc_cases h)

  pub below_length : (n : ℕ) → length (stores_below which store n) ≡ count_below which n
  unfolding stores_below count_below
  below_length zero = refl
  below_length (suc n) =
      let r = below_length n in
      ⊎_elim (λ (z : which n ≡ true).
      rw (below_hit n z, count_hit which n z, length-append (stores_below which store n) (store n ∷ [])) (omega arith))
      (λ (z : which n ≡ false). rw (below_miss n z, count_miss which n z) r) (bool? (which n))

  -- The last one, where there is one.
  pub below_last : (n : ℕ) → 0 < count_below which n
      → (q : ℕ) × (q < n) × (which q ≡ true) × (stores_below which store n ≡ stores_below which store q ++ (store q ∷ []))
      × (count_below which n ≡ suc (count_below which q))
  unfolding count_below stores_below
  below_last zero h = absurd (not-suc-le-zero h)
  below_last (suc n) h =
      ⊎_elim (λ (z : which n ≡ true). (n, omega arith, z, below_hit n z, count_hit which n z))
      (λ (z : which n ≡ false).
      let w = below_last n (rw (count_miss which n z) at h) in
      (w.0, omega arith, w.2, below_miss n z ∙ w.3, count_miss which n z ∙ w.4))
      (bool? (which n))

pub applied_append : (xs ys : List Store) (image : ℕ → List ℕ) → applied (xs ++ ys) image ≡ applied ys (applied xs image)
unfolding applied
applied_append [] ys image = refl
applied_append (x ∷ xs) ys image = applied_append xs ys (updated image x.sector x.bytes)
