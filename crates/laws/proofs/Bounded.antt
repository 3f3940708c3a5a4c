-- Laws of the tests, counts, searches and lists of `specs/Bounded`.
use Prim.Native.Nat.{ℕ, zero, suc, ◌+◌, ◌≤◌, ◌<◌}
use mathlib.Core.Path.{◌≡◌, refl, sym, ◌∙◌, ap, subst, fun_ext}
use mathlib.Core.Logic.{◌⊎◌, inl, inr, ⊎_elim}
use mathlib.Core.Bool.{Bool, true, false, cond, not, ◌&&◌, ◌||◌, true≢false}
use mathlib.Core.List.{List, [], ◌∷◌}
use native.Mathlib.Nat.{le_of_suc-le-suc, not-suc-le-zero, eq-or-lt_of_le}
use native.Mathlib.Omega.{arith}
use lib.ListN.{length, get_or, set}
use lib.Seq.{get_or-set_same, get_or-set_other}
use lib.ListN.{get_or-eq_default}
use lib.Dec.{ltb, eqb}
use borrow.Author.Tests.{ltb-true, ltb-false, eqb-true, eqb-false, eq-eqb, ne_eqb}
use Rattle.layout.specs.Bounded.{at, all_below, any_below, count_below, best, all, elem, distinct, gathered, list_from, tabled, updated, updates, always}

-- Deciding.

pub bool? : (b : Bool) → (b ≡ true) ⊎ (b ≡ false)
bool? true = inl refl
bool? false = inr refl

pub lt? : (a b : ℕ) → (a < b) ⊎ (b ≤ a)
lt? a b = ⊎_elim (λ e. inl (ltb-true a b e)) (λ e. inr (ltb-false a b e)) (bool? (ltb a b))

pub eq? : (a b : ℕ) → (a ≡ b) ⊎ (a ≡ b → ⊥)
eq? a b = ⊎_elim (λ e. inl (eqb-true a b e)) (λ e. inr (eqb-false a b e)) (bool? (eqb a b))

pub suc_cases : {k n : ℕ} → k < suc n → (k ≡ n) ⊎ (k < n)
suc_cases h = eq-or-lt_of_le (le_of_suc-le-suc h)

pub clash : {A : Type 0} (b : Bool) → b ≡ true → b ≡ false → A
clash b t f = absurd (true≢false (sym t ∙ f))

-- Tests joined.

pub and_l : (a b : Bool) → (a && b) ≡ true → a ≡ true
and_l true b e = refl
and_l false b e = absurd (true≢false (sym e))

pub and_r : (a b : Bool) → (a && b) ≡ true → b ≡ true
and_r true b e = e
and_r false b e = absurd (true≢false (sym e))

pub and_i : (a b : Bool) → a ≡ true → b ≡ true → (a && b) ≡ true
and_i a b p q = ap (λ (x : Bool). x && b) p ∙ q

pub or_cases : (a b : Bool) → (a || b) ≡ true → (a ≡ true) ⊎ (b ≡ true)
or_cases true b e = inl refl
or_cases false b e = inr e

pub or_l : (a b : Bool) → a ≡ true → (a || b) ≡ true
or_l a b e = ap (λ (x : Bool). x || b) e

pub or_r : (a b : Bool) → b ≡ true → (a || b) ≡ true
or_r true b e = refl
or_r false b e = e

pub or_none : (a b : Bool) → a ≡ false → b ≡ false → (a || b) ≡ false
or_none a b p q = ap (λ (x : Bool). x || b) p ∙ q

pub or_left : (a b : Bool) → (a || b) ≡ false → a ≡ false
or_left true b e = absurd (true≢false e)
or_left false b e = refl

pub or_right : (a b : Bool) → (a || b) ≡ false → b ≡ false
or_right true b e = absurd (true≢false e)
or_right false b e = e

pub not_is : (b : Bool) → b ≡ false → not b ≡ true
not_is b e = ap not e

pub not_of : (b : Bool) → not b ≡ true → b ≡ false
not_of true e = absurd (true≢false (sym e))
not_of false e = refl

module _ {A : Type 0} where
  pub cond_true : (b : Bool) (x y : A) → b ≡ true → cond b x y ≡ x
  cond_true b x y e = ap (λ (z : Bool). cond z x y) e

  pub cond_false : (b : Bool) (x y : A) → b ≡ false → cond b x y ≡ y
  cond_false b x y e = ap (λ (z : Bool). cond z x y) e

  pub updated_here : (f : ℕ → A) (k : ℕ) (v : A) → updated f k v k ≡ v
  updated_here f k v = cond_true (eqb k k) v (f k) (eq-eqb k k refl)

  pub updated_other : (f : ℕ → A) (k j : ℕ) (v : A) → (j ≡ k → ⊥) → updated f k v j ≡ f j
  updated_other f k j v h = cond_false (eqb j k) v (f j) (ne_eqb j k h)

  pub updates_other : (f : ℕ → A) (place : ℕ → ℕ) (value : ℕ → A) (n k : ℕ) → ((i : ℕ) → i < n → place i ≡ k → ⊥) → updates f place value n k ≡ f k
  unfolding updates
  updates_other f place value zero k h = refl
  updates_other f place value (suc n) k h =
      updated_other (updates f place value n) (place n) k (value n) (λ (e : k ≡ place n). h n (omega arith) (sym e))
      ∙ updates_other f place value n k (λ i b. h i (omega arith))

  pub updates_at : (f : ℕ → A) (place : ℕ → ℕ) (value : ℕ → A) (n i : ℕ) → i < n
      → ((j k : ℕ) → j < k → k < n → place j ≡ place k → ⊥) → updates f place value n (place i) ≡ value i
  unfolding updates
  updates_at f place value zero i h apart = absurd (not-suc-le-zero h)
  updates_at f place value (suc n) i h apart =
      ⊎_elim (λ (z : i ≡ n).
      rw z (updated_here (updates f place value n) (place n) (value n)))
      (λ (z : i < n).
      updated_other (updates f place value n) (place n) (place i) (value n) (apart i n z (omega arith))
      ∙ updates_at f place value n i z (λ j k a b. apart j k a (omega arith)))
      (suc_cases h)

  pub list_from_same : (f g : ℕ → A) (from n : ℕ) → ((k : ℕ) → from ≤ k → k < from + n → f k ≡ g k) → list_from f from n ≡ list_from g from n
  unfolding list_from
  list_from_same f g from zero h = refl
  list_from_same f g from (suc n) h =
      λ i. ◌∷◌ (h from (omega arith) (omega arith) i) (list_from_same f g (suc from) n (λ k a b. h k (omega arith) (omega arith)) i)

  pub length_list_from : (f : ℕ → A) (from n : ℕ) → length (list_from f from n) ≡ n
  unfolding list_from
  length_list_from f from zero = refl
  length_list_from f from (suc n) = ap suc (length_list_from f (suc from) n)

  pub list_from_at : (f : ℕ → A) (from n k : ℕ) (d : A) → k < n → get_or (list_from f from n) k d ≡ f (from + k)
  unfolding list_from
  list_from_at f from zero k d h = absurd (not-suc-le-zero h)
  list_from_at f from (suc n) zero d h = ap f (omega arith)
  list_from_at f from (suc n) (suc k) d h =
      list_from_at f (suc from) n k d (le_of_suc-le-suc h) ∙ ap f (omega arith)

  pub list_from_past : (f : ℕ → A) (from n k : ℕ) (d : A) → n ≤ k → get_or (list_from f from n) k d ≡ d
  unfolding list_from
  list_from_past f from zero k d h = refl
  list_from_past f from (suc n) zero d h = absurd (not-suc-le-zero h)
  list_from_past f from (suc n) (suc k) d h = list_from_past f (suc from) n k d (le_of_suc-le-suc h)

  pub tabled_at : (d : A) (n : ℕ) (f : ℕ → A) (k : ℕ) → k < n → tabled d n f k ≡ f k
  unfolding tabled
  tabled_at d n f k h = list_from_at f 0 n k d h ∙ ap f (omega arith)

  pub tabled_past : (d : A) (n : ℕ) (f : ℕ → A) (k : ℕ) → n ≤ k → tabled d n f k ≡ d
  unfolding tabled
  tabled_past d n f k h = list_from_past f 0 n k d h

-- All below a bound.

module _ (test : ℕ → Bool) where
  pub all_below_at : (n : ℕ) → all_below test n ≡ true → (k : ℕ) → k < n → test k ≡ true
  unfolding all_below
  all_below_at zero e k h = absurd (not-suc-le-zero h)
  all_below_at (suc n) e k h =
      ⊎_elim (λ (z : k ≡ n). ap test z ∙ and_r (all_below test n) (test n) e)
      (all_below_at n (and_l (all_below test n) (test n) e) k) (suc_cases h)

  pub all_below_is : (n : ℕ) → ((k : ℕ) → k < n → test k ≡ true) → all_below test n ≡ true
  unfolding all_below
  all_below_is zero f = refl
  all_below_is (suc n) f = and_i (all_below test n) (test n) (all_below_is n (λ k h. f k (omega arith))) (f n (omega arith))

  pub any_below_at : (n : ℕ) → any_below test n ≡ true → (k : ℕ) × (k < n) × (test k ≡ true)
  unfolding any_below
  any_below_at zero e = absurd (true≢false (sym e))
  any_below_at (suc n) e =
      ⊎_elim (λ (z : any_below test n ≡ true). let w = any_below_at n z in (w.0, omega arith, w.2))
      (λ (z : test n ≡ true). (n, omega arith, z)) (or_cases (any_below test n) (test n) e)

  pub any_below_is : (n k : ℕ) → k < n → test k ≡ true → any_below test n ≡ true
  unfolding any_below
  any_below_is zero k h e = absurd (not-suc-le-zero h)
  any_below_is (suc n) k h e =
      ⊎_elim (λ (z : k ≡ n). or_r (any_below test n) (test n) (ap test (sym z) ∙ e))
      (λ (z : k < n). or_l (any_below test n) (test n) (any_below_is n k z e)) (suc_cases h)

  pub any_below_none : (n : ℕ) → ((k : ℕ) → k < n → test k ≡ false) → any_below test n ≡ false
  unfolding any_below
  any_below_none zero f = refl
  any_below_none (suc n) f =
      or_none (any_below test n) (test n) (any_below_none n (λ k h. f k (omega arith))) (f n (omega arith))

  -- Counting.

  pub count_hit : (n : ℕ) → test n ≡ true → count_below test (suc n) ≡ suc (count_below test n)
  unfolding count_below
  count_hit n e = cond_true (test n) (suc (count_below test n)) (count_below test n) e

  pub count_miss : (n : ℕ) → test n ≡ false → count_below test (suc n) ≡ count_below test n
  unfolding count_below
  count_miss n e = cond_false (test n) (suc (count_below test n)) (count_below test n) e

  pub count_le : (n : ℕ) → count_below test n ≤ n
  unfolding count_below
  count_le zero = omega arith
  count_le (suc n) =
      let h = count_le n in
      ⊎_elim (λ (z : test n ≡ true). rw (count_hit n z) (omega arith)) (λ (z : test n ≡ false). rw (count_miss n z) (omega arith))
      (bool? (test n))

  -- A count that is not zero has a witness.
  pub count_some : (n : ℕ) → 0 < count_below test n → (k : ℕ) × (k < n) × (test k ≡ true)
  unfolding count_below
  count_some zero h = absurd (not-suc-le-zero h)
  count_some (suc n) h =
      ⊎_elim (λ (z : test n ≡ true). (n, omega arith, z))
      (λ (z : test n ≡ false).
      let w = count_some n (rw (count_miss n z) at h) in
      (w.0, omega arith, w.2))
      (bool? (test n))

  pub count_grows : (m n : ℕ) → m ≤ n → count_below test m ≤ count_below test n
  count_grows m zero h =
      let z : 0 ≡ m = omega arith in
      subst (λ (x : ℕ). count_below test x ≤ count_below test 0) z (omega arith)
  count_grows m (suc n) h =
      ⊎_elim (λ (z : m ≡ suc n). subst (λ (x : ℕ). count_below test m ≤ count_below test x) z (omega arith))
      (λ (z : m < suc n).
      let r = count_grows m n (le_of_suc-le-suc z) in
      ⊎_elim (λ (y : test n ≡ true). rw (count_hit n y) (omega arith))
      (λ (y : test n ≡ false). rw (count_miss n y) (omega arith)) (bool? (test n)))
      (eq-or-lt_of_le h)

  -- The count before a hit is lower than after it.
  pub count_before : (m n : ℕ) → m < n → test m ≡ true → count_below test m < count_below test n
  count_before m n h e =
      let r = count_grows (suc m) n h in
      let s = count_hit m e in
      omega arith

  -- Each number below the count is the count before some hit.
  pub count_nth : (n j : ℕ) → j < count_below test n → (p : ℕ) × (p < n) × (test p ≡ true) × (count_below test p ≡ j)
  unfolding count_below
  count_nth zero j h = absurd (not-suc-le-zero h)
  count_nth (suc n) j h =
      let lower : j < count_below test n → (p : ℕ) × (p < suc n) × (test p ≡ true) × (count_below test p ≡ j) =
      λ b. let w = count_nth n j b in (w.0, omega arith, w.2, w.3) in
      ⊎_elim (λ (z : test n ≡ true).
      ⊎_elim (λ (y : j ≡ count_below test n). (n, omega arith, z, sym y)) lower (suc_cases (rw (count_hit n z) at h)))
      (λ (z : test n ≡ false). lower (rw (count_miss n z) at h)) (bool? (test n))

pub count_always : (n : ℕ) → count_below always n ≡ n
unfolding count_below
count_always zero = refl
count_always (suc n) = ap suc (count_always n)

-- Two tests compared.

module _ (test other : ℕ → Bool) where
  pub count_same : (n : ℕ) → ((k : ℕ) → k < n → test k ≡ other k) → count_below test n ≡ count_below other n
  unfolding count_below
  count_same zero f = refl
  count_same (suc n) f =
      let r = count_same n (λ k h. f k (omega arith)) in
      let e = f n (omega arith) in
      ⊎_elim (λ (z : test n ≡ true). count_hit test n z ∙ ap suc r ∙ sym (count_hit other n (sym e ∙ z)))
      (λ (z : test n ≡ false). count_miss test n z ∙ r ∙ sym (count_miss other n (sym e ∙ z))) (bool? (test n))

  -- They differ at most at one place.
  pub count_near : (n b : ℕ) → ((k : ℕ) → (k ≡ b → ⊥) → test k ≡ other k) → count_below test n ≤ suc (count_below other n)
  unfolding count_below
  count_near zero b f = omega arith
  count_near (suc n) b f =
      let r = count_near n b f in
      let m = count_le other n in
      ⊎_elim (λ (z : n ≡ b).
      let s = count_same n (λ k h. f k (λ (w : k ≡ b). omega arith)) in
      let g = count_grows other n (suc n) (omega arith) in
      ⊎_elim (λ (y : test n ≡ true). rw (count_hit test n y) (omega arith))
      (λ (y : test n ≡ false). rw (count_miss test n y) (omega arith)) (bool? (test n)))
      (λ (z : n ≡ b → ⊥).
      let e = f n z in
      ⊎_elim (λ (y : test n ≡ true). rw (count_hit test n y, count_hit other n (sym e ∙ y)) (omega arith))
      (λ (y : test n ≡ false). rw (count_miss test n y, count_miss other n (sym e ∙ y)) (omega arith)) (bool? (test n)))
      (eq? n b)

  -- What passes the one passes the other.
  pub count_fewer : (n : ℕ) → ((k : ℕ) → k < n → test k ≡ true → other k ≡ true) → count_below test n ≤ count_below other n
  unfolding count_below
  count_fewer zero f = omega arith
  count_fewer (suc n) f =
      let r = count_fewer n (λ k h. f k (omega arith)) in
      let g = count_grows other n (suc n) (omega arith) in
      ⊎_elim (λ (y : test n ≡ true). rw (count_hit test n y, count_hit other n (f n (omega arith) y)) (omega arith))
      (λ (y : test n ≡ false). rw (count_miss test n y) (omega arith)) (bool? (test n))

  -- And one that passes the other does not pass the one.
  pub count_less : (n b : ℕ) → ((k : ℕ) → k < n → test k ≡ true → other k ≡ true) → b < n → test b ≡ false → other b ≡ true
      → count_below test n < count_below other n
  unfolding count_below
  count_less zero b f h e g = absurd (not-suc-le-zero h)
  count_less (suc n) b f h e g =
      ⊎_elim (λ (z : b ≡ n).
      let r = count_fewer n (λ k i. f k (omega arith)) in
      rw (count_miss test n (ap test (sym z) ∙ e), count_hit other n (ap other (sym z) ∙ g)) (omega arith))
      (λ (z : b < n).
      let r = count_less n b (λ k i. f k (omega arith)) z e g in
      let m = count_grows other n (suc n) (omega arith) in
      ⊎_elim (λ (y : test n ≡ true). rw (count_hit test n y, count_hit other n (f n (omega arith) y)) (omega arith))
      (λ (y : test n ≡ false). rw (count_miss test n y) (omega arith)) (bool? (test n)))
      (suc_cases h)

-- The greatest key.

module _ (key : ℕ → ℕ) where
  best_step :
      (n : ℕ) → ((best key (suc n) ≡ n) × (key (best key n) < key n)) ⊎ ((best key (suc n) ≡ best key n) × (key n ≤ key (best key n)))
  unfolding best
  best_step n =
      ⊎_elim (λ (z : ltb (key (best key n)) (key n) ≡ true). inl (cond_true (ltb (key (best key n)) (key n)) n (best key n) z, ltb-true _ _ z))
      (λ (z : ltb (key (best key n)) (key n) ≡ false). inr (cond_false (ltb (key (best key n)) (key n)) n (best key n) z, ltb-false _ _ z))
      (bool? (ltb (key (best key n)) (key n)))

  pub best_most : (n k : ℕ) → k < n → key k ≤ key (best key n)
  best_most zero k h = absurd (not-suc-le-zero h)
  best_most (suc n) k h =
      ⊎_elim (λ w.
      ⊎_elim (λ (z : k ≡ n). rw (w.0, z) (omega arith))
      (λ (z : k < n). let r = best_most n k z in let s = w.1 in rw w.0 (omega arith)) (suc_cases h))
      (λ w.
      ⊎_elim (λ (z : k ≡ n). let s = w.1 in rw (w.0, z) s)
      (λ (z : k < n). let r = best_most n k z in rw w.0 r) (suc_cases h))
      (best_step n)

  best_none : (n : ℕ) → n ≤ 0 → best key n ≡ 0
  unfolding best
  best_none zero h = refl
  best_none (suc n) h = absurd (not-suc-le-zero h)

  pub best_below : (n : ℕ) → 0 < n → best key n < n
  best_below zero h = absurd (not-suc-le-zero h)
  best_below (suc n) h =
      ⊎_elim (λ w. rw w.0 (omega arith))
      (λ w.
      ⊎_elim (λ (z : 0 < n). let r = best_below n z in rw w.0 (omega arith))
      (λ (z : n ≤ 0). rw (w.0, best_none n z) (omega arith)) (lt? 0 n))
      (best_step n)

  -- The only one with so great a key.
  pub best_unique : (n k : ℕ) → k < n → ((j : ℕ) → j < n → (j ≡ k → ⊥) → key j < key k) → best key n ≡ k
  best_unique n k h f =
      ⊎_elim (λ (z : best key n ≡ k). z)
      (λ (z : best key n ≡ k → ⊥).
      let a = best_most n k h in
      let b = f (best key n) (best_below n (omega arith)) z in
      absurd (omega arith))
      (eq? (best key n) k)

-- Lists: membership, distinctness, and lists gathered over a bound.

pub elem_cons : (k x : ℕ) (xs : List ℕ) → elem k (x ∷ xs) ≡ true → (k ≡ x) ⊎ (elem k xs ≡ true)
unfolding elem
elem_cons k x xs e = ⊎_elim (λ z. inl (eqb-true k x z)) inr (or_cases (eqb k x) (elem k xs) e)

pub elem_here : (k : ℕ) (xs : List ℕ) → elem k (k ∷ xs) ≡ true
unfolding elem
elem_here k xs = or_l (eqb k k) (elem k xs) (eq-eqb k k refl)

pub elem_there : (k x : ℕ) (xs : List ℕ) → elem k xs ≡ true → elem k (x ∷ xs) ≡ true
unfolding elem
elem_there k x xs e = or_r (eqb k x) (elem k xs) e

pub distinct_head : (x : ℕ) (xs : List ℕ) → distinct (x ∷ xs) ≡ true → elem x xs ≡ false
unfolding distinct
distinct_head x xs e = not_of (elem x xs) (and_l (not (elem x xs)) (distinct xs) e)

pub distinct_rest : (x : ℕ) (xs : List ℕ) → distinct (x ∷ xs) ≡ true → distinct xs ≡ true
unfolding distinct
distinct_rest x xs e = and_r (not (elem x xs)) (distinct xs) e

pub distinct_cons : (x : ℕ) (xs : List ℕ) → elem x xs ≡ false → distinct xs ≡ true → distinct (x ∷ xs) ≡ true
unfolding distinct
distinct_cons x xs h e = and_i (not (elem x xs)) (distinct xs) (not_is (elem x xs) h) e

pub not_elem : (k : ℕ) (xs : List ℕ) → (elem k xs ≡ true → ⊥) → elem k xs ≡ false
not_elem k xs f = ⊎_elim (λ z. absurd (f z)) (λ z. z) (bool? (elem k xs))

module _ (test : ℕ → Bool) (value : ℕ → ℕ) (others : List ℕ) where
  pub gathered_hit : (n : ℕ) → test n ≡ true → gathered test value others (suc n) ≡ value n ∷ gathered test value others n
  unfolding gathered
  gathered_hit n e = cond_true (test n) (value n ∷ gathered test value others n) (gathered test value others n) e

  pub gathered_miss : (n : ℕ) → test n ≡ false → gathered test value others (suc n) ≡ gathered test value others n
  unfolding gathered
  gathered_miss n e = cond_false (test n) (value n ∷ gathered test value others n) (gathered test value others n) e

  pub gathered_has : (n k : ℕ) → elem k (gathered test value others n) ≡ true
      → (elem k others ≡ true) ⊎ ((i : ℕ) × (i < n) × (test i ≡ true) × (value i ≡ k))
  unfolding gathered
  gathered_has zero k e = inl e
  gathered_has (suc n) k e =
      let later : elem k (gathered test value others n) ≡ true
      → (elem k others ≡ true) ⊎ ((i : ℕ) × (i < suc n) × (test i ≡ true) × (value i ≡ k)) =
      λ y. ⊎_elim inl (λ w. inr (w.0, omega arith, w.2, w.3)) (gathered_has n k y) in
      ⊎_elim (λ (z : test n ≡ true).
      ⊎_elim (λ (y : k ≡ value n). inr (n, omega arith, z, sym y)) later
      (elem_cons k (value n) (gathered test value others n) (rw (gathered_hit n z) at e)))
      (λ (z : test n ≡ false). later (rw (gathered_miss n z) at e)) (bool? (test n))

  pub gathered_other : (n k : ℕ) → elem k others ≡ true → elem k (gathered test value others n) ≡ true
  unfolding gathered
  gathered_other zero k e = e
  gathered_other (suc n) k e =
      let r = gathered_other n k e in
      ⊎_elim (λ (z : test n ≡ true). rw (gathered_hit n z) (elem_there k (value n) (gathered test value others n) r))
      (λ (z : test n ≡ false). rw (gathered_miss n z) r) (bool? (test n))

  pub gathered_own : (n i : ℕ) → i < n → test i ≡ true → elem (value i) (gathered test value others n) ≡ true
  unfolding gathered
  gathered_own zero i h e = absurd (not-suc-le-zero h)
  gathered_own (suc n) i h e =
      ⊎_elim (λ (z : i ≡ n).
      rw (gathered_hit n (ap test (sym z) ∙ e), z) (elem_here (value n) (gathered test value others n)))
      (λ (z : i < n).
      let r = gathered_own n i z e in
      ⊎_elim (λ (y : test n ≡ true). rw (gathered_hit n y) (elem_there (value i) (value n) (gathered test value others n) r))
      (λ (y : test n ≡ false). rw (gathered_miss n y) r) (bool? (test n)))
      (suc_cases h)

  -- Distinct: the others are, the values are, and no value is among the others.
  pub gathered_distinct : (n : ℕ) → distinct others ≡ true
      → ((i : ℕ) → i < n → test i ≡ true → elem (value i) others ≡ false)
      → ((i j : ℕ) → i < n → j < n → test i ≡ true → test j ≡ true → value i ≡ value j → i ≡ j)
      → distinct (gathered test value others n) ≡ true
  unfolding gathered
  gathered_distinct zero d apart inj = d
  gathered_distinct (suc n) d apart inj =
      let r = gathered_distinct n d (λ i h. apart i (omega arith)) (λ i j h g. inj i j (omega arith) (omega arith)) in
      ⊎_elim (λ (z : test n ≡ true).
      rw (gathered_hit n z)
      (distinct_cons (value n) (gathered test value others n)
      (not_elem (value n) (gathered test value others n)
      (λ (e : elem (value n) (gathered test value others n) ≡ true).
      ⊎_elim (λ (y : elem (value n) others ≡ true). clash (elem (value n) others) y (apart n (omega arith) z))
      (λ w. let q = inj w.0 n (omega arith) (omega arith) w.2 z w.3 in omega arith)
      (gathered_has n (value n) e)))
      r))
      (λ (z : test n ≡ false). rw (gathered_miss n z) r) (bool? (test n))

  pub gathered_rest : (n : ℕ) → distinct (gathered test value others n) ≡ true → distinct others ≡ true
  unfolding gathered
  gathered_rest zero d = d
  gathered_rest (suc n) d =
      ⊎_elim (λ (z : test n ≡ true).
      gathered_rest n (distinct_rest (value n) (gathered test value others n) (rw (gathered_hit n z) at d)))
      (λ (z : test n ≡ false). gathered_rest n (rw (gathered_miss n z) at d)) (bool? (test n))

  pub gathered_apart : (n : ℕ) → distinct (gathered test value others n) ≡ true
      → (i : ℕ) → i < n → test i ≡ true → elem (value i) others ≡ false
  unfolding gathered
  gathered_apart zero d i h e = absurd (not-suc-le-zero h)
  gathered_apart (suc n) d i h e =
      ⊎_elim (λ (z : test n ≡ true).
      let d' = rw (gathered_hit n z) at d in
      ⊎_elim (λ (y : i ≡ n).
      not_elem (value i) others
      (λ (o : elem (value i) others ≡ true).
      clash (elem (value n) (gathered test value others n)) (rw y at (gathered_other n (value i) o))
      (distinct_head (value n) (gathered test value others n) d')))
      (λ (y : i < n). gathered_apart n (distinct_rest (value n) (gathered test value others n) d') i y e)
      (suc_cases h))
      (λ (z : test n ≡ false).
      ⊎_elim (λ (y : i ≡ n). clash (test i) e (ap test y ∙ z))
      (λ (y : i < n). gathered_apart n (rw (gathered_miss n z) at d) i y e) (suc_cases h))
      (bool? (test n))

  pub gathered_injective : (n : ℕ) → distinct (gathered test value others n) ≡ true
      → (i j : ℕ) → i < j → j < n → test i ≡ true → test j ≡ true → value i ≡ value j → ⊥
  unfolding gathered
  gathered_injective zero d i j h g e f q = absurd (not-suc-le-zero g)
  gathered_injective (suc n) d i j h g e f q =
      ⊎_elim (λ (y : j ≡ n).
      let z = ap test (sym y) ∙ f in
      let v = q ∙ ap value y in
      let here = gathered_own n i (omega arith) e in
      clash (elem (value n) (gathered test value others n)) (rw v at here)
      (distinct_head (value n) (gathered test value others n) (rw (gathered_hit n z) at d)))
      (λ (y : j < n).
      ⊎_elim (λ (z : test n ≡ true).
      gathered_injective n (distinct_rest (value n) (gathered test value others n) (rw (gathered_hit n z) at d)) i j h y e f q)
      (λ (z : test n ≡ false). gathered_injective n (rw (gathered_miss n z) at d) i j h y e f q) (bool? (test n)))
      (suc_cases g)

  pub gathered_all : (check : ℕ → Bool) (n : ℕ) → all check others ≡ true
      → ((i : ℕ) → i < n → test i ≡ true → check (value i) ≡ true) → all check (gathered test value others n) ≡ true
  unfolding gathered all
  gathered_all check zero o f = o
  gathered_all check (suc n) o f =
      let r = gathered_all check n o (λ i h. f i (omega arith)) in
      ⊎_elim (λ (z : test n ≡ true).
      rw (gathered_hit n z) (and_i (check (value n)) (all check (gathered test value others n)) (f n (omega arith) z) r))
      (λ (z : test n ≡ false). rw (gathered_miss n z) r) (bool? (test n))

  pub gathered_length : (n : ℕ) → length (gathered test value others n) ≡ count_below test n + length others
  unfolding gathered count_below
  gathered_length zero = omega arith
  gathered_length (suc n) =
      let r = gathered_length n in
      ⊎_elim (λ (z : test n ≡ true). rw (gathered_hit n z, count_hit test n z) (omega arith))
      (λ (z : test n ≡ false). rw (gathered_miss n z, count_miss test n z) (omega arith)) (bool? (test n))

pub all_elem : (check : ℕ → Bool) (xs : List ℕ) (k : ℕ) → all check xs ≡ true → elem k xs ≡ true → check k ≡ true
unfolding all elem
all_elem check [] k a e = absurd (true≢false (sym e))
all_elem check (x ∷ xs) k a e =
    ⊎_elim (λ (z : k ≡ x). ap check z ∙ and_l (check x) (all check xs) a)
    (λ (z : elem k xs ≡ true). all_elem check xs k (and_r (check x) (all check xs) a) z) (elem_cons k x xs e)

pub all_at : (check : ℕ → Bool) (xs : List ℕ) (i : ℕ) → all check xs ≡ true → i < length xs → check (at xs i) ≡ true
unfolding all
all_at check [] i e h = absurd (not-suc-le-zero h)
all_at check (x ∷ xs) zero e h = and_l (check x) (all check xs) e
all_at check (x ∷ xs) (suc i) e h = all_at check xs i (and_r (check x) (all check xs) e) (le_of_suc-le-suc h)

-- A list with one number changed, as a function.
pub at_set : (xs : List ℕ) (i v : ℕ) → i < length xs → at (set xs i v) ≡ updated (at xs) i v
at_set xs i v h =
    fun_ext (λ k.
    ⊎_elim (λ (e : k ≡ i). ap (λ (x : ℕ). get_or (set xs i v) x 0) e ∙ get_or-set_same xs i v 0 h ∙ rw (eq-eqb k i e) refl)
    (λ (d : k ≡ i → ⊥). get_or-set_other xs i k v 0 d ∙ rw (ne_eqb k i d) refl) (eq? k i))

-- Past the end stands 0.
pub past_end : (xs : List ℕ) (i : ℕ) → length xs ≤ i → 0 ≡ at xs i
past_end xs i h = sym (get_or-eq_default xs 0 {n = i} h)
