-- Numbers chained by group, and a group's chain walked back while the rests are stamped.
use Prim.Native.Nat.{ℕ, zero, suc, ◌+◌, ◌-◌, ◌/◌, ◌%◌, ◌^◌, ◌≤◌, ◌<◌}
use mathlib.Core.Path.{◌≡◌, refl, sym, ◌∙◌, ap, subst}
use mathlib.Core.Logic.{⊎_elim}
use mathlib.Core.Bool.{true, false}
use mathlib.Core.List.{List}
use native.Mathlib.Nat.{not-suc-le-zero, div-add-mod}
use native.Mathlib.Numerals.{add-one}
use native.Mathlib.Omega.{arith}
use lib.ListN.{length, set, length-set}
use lib.Seq.{get_or-set_same, get_or-set_other}
use borrow.Author.Tests.{eq-eqb, ne_eqb}
use Rattle.layout.specs.Bounded.{at, distinct}
use Rattle.laws.proofs.Bounded.{eq?, lt?, cond_true, cond_false}
use Rattle.distinct.specs.Chains.{groups, rests, group_of, rest_of, last_in, Back, Linked, Apart}
use Rattle.distinct.proofs.Equal.{differ_distinct, equal_distinct}

module _ (group : ℕ → ℕ) (g : ℕ) where
  last_hit : (n : ℕ) → group n ≡ g → last_in group g (suc n) ≡ suc n
  unfolding last_in
  last_hit n e = cond_true _ (suc n) (last_in group g n) (eq-eqb (group n) g e)

  last_miss : (n : ℕ) → (group n ≡ g → ⊥) → last_in group g (suc n) ≡ last_in group g n
  unfolding last_in
  last_miss n d = cond_false _ (suc n) (last_in group g n) (ne_eqb (group n) g d)

  last_le : (n : ℕ) → last_in group g n ≤ n
  unfolding last_in
  last_le zero = omega arith
  last_le (suc n) =
      let r = last_le n in
      ⊎_elim (λ (z : group n ≡ g). rw (last_hit n z) (omega arith)) (λ (z : group n ≡ g → ⊥). rw (last_miss n z) (omega arith)) (eq? (group n) g)

  -- It is of the group, and none after it is.
  last_own : (n q : ℕ) → last_in group g n ≡ suc q → group q ≡ g
  unfolding last_in
  last_own zero q e = let z : 0 ≡ suc q = e in absurd (omega arith)
  last_own (suc n) q e =
      ⊎_elim (λ (z : group n ≡ g). let y : suc n ≡ suc q = sym (last_hit n z) ∙ e in let x : q ≡ n = omega arith in ap group x ∙ z)
      (λ (z : group n ≡ g → ⊥). last_own n q (sym (last_miss n z) ∙ e)) (eq? (group n) g)

  last_none : (n j : ℕ) → last_in group g n ≤ j → j < n → group j ≡ g → ⊥
  last_none zero j h b e = absurd (not-suc-le-zero b)
  last_none (suc n) j h b e =
      ⊎_elim (λ (z : group n ≡ g). let y = last_hit n z in let w : suc n ≤ j = (rw y at h) in omega arith)
      (λ (z : group n ≡ g → ⊥).
      ⊎_elim (λ (y : j ≡ n). z (ap group (sym y) ∙ e))
      (λ (y : j ≡ n → ⊥). last_none n j (rw (last_miss n z) at h) (omega arith) e) (eq? j n)) (eq? (group n) g)

-- Linking: the chains of the numbers below i.
module _ (xs : List ℕ) (next₀ : List ℕ) where
  pub record Linking (heads next : List ℕ) (i : ℕ) : Type 0 where
    pub inside : i ≤ length xs
    pub wide : length heads ≡ groups
    pub long : length next ≡ length next₀
    pub ends : (g : ℕ) → g < groups → at heads g ≡ last_in (group_of xs) g i
    pub back : (j : ℕ) → j < i → at next j ≡ last_in (group_of xs) (group_of xs j) j

  pub linking_none : (heads : List ℕ) → length heads ≡ groups → ((g : ℕ) → at heads g ≡ 0) → Linking heads next₀ 0
  unfolding last_in
  linking_none heads n z =
      record {
        inside = omega arith;
        wide = n;
        long = refl;
        ends = λ g h. z g;
        back = λ j h. absurd (not-suc-le-zero h);
      }

  pub linking_more : (heads next : List ℕ) (i : ℕ) → Linking heads next i → at xs i < 2 ^ 32 → i < length xs → length xs ≤ length next₀
      → Linking (set heads (group_of xs i) (i + 1)) (set next i (at heads (group_of xs i))) (i + 1)
  linking_more heads next i l word h fit =
      let n = l.wide in
      let m = l.long in
      let own : group_of xs i < groups = omega arith in
      rw add-one
      (record {
        inside = h;
        wide = length-set heads (group_of xs i) (suc i) ∙ n;
        long = length-set next i (at heads (group_of xs i)) ∙ m;
        ends = λ g b.
            ⊎_elim (λ (e : g ≡ group_of xs i).
            ap (at (set heads (group_of xs i) (suc i))) e ∙ get_or-set_same heads (group_of xs i) (suc i) 0 (omega arith)
            ∙ sym (last_hit (group_of xs) g i (sym e)))
            (λ (d : g ≡ group_of xs i → ⊥).
            get_or-set_other heads (group_of xs i) g (suc i) 0 d ∙ l.ends g b
            ∙ sym (last_miss (group_of xs) g i (λ (e : group_of xs i ≡ g). d (sym e)))) (eq? g (group_of xs i));
        back = λ j b.
            ⊎_elim (λ (e : j ≡ i).
            ap (at (set next i (at heads (group_of xs i)))) e ∙ get_or-set_same next i (at heads (group_of xs i)) 0 (omega arith)
            ∙ l.ends (group_of xs i) own ∙ ap (λ (x : ℕ). last_in (group_of xs) (group_of xs x) x) (sym e))
            (λ (d : j ≡ i → ⊥). get_or-set_other next i j (at heads (group_of xs i)) 0 d ∙ l.back j (omega arith)) (eq? j i);
      })

  -- A head so far is no higher than i, so that it fits a link.
  pub linking_low : (heads next : List ℕ) (i : ℕ) → Linking heads next i → at xs i < 2 ^ 32 → at heads (group_of xs i) ≤ i
  linking_low heads next i l word =
      let e = l.ends (group_of xs i) (omega arith) in
      let b = last_le (group_of xs) (group_of xs i) i in
      omega arith

  pub linking_ends : (heads next : List ℕ) (i : ℕ) → Linking heads next i → length xs ≤ i → Linked xs heads next
  linking_ends heads next i l h =
      let b = l.inside in
      let e : i ≡ length xs = omega arith in
      record {
        ends = λ g c. l.ends g c ∙ ap (last_in (group_of xs) g) e;
        back = λ j c. l.back j (omega arith);
      }

-- Numbers of one group with one rest are equal.
same_number : (xs : List ℕ) (i j : ℕ) → group_of xs i ≡ group_of xs j → rest_of xs i ≡ rest_of xs j → at xs i ≡ at xs j
same_number xs i j e f = let a = div-add-mod (at xs i) rests in let b = div-add-mod (at xs j) rests in omega arith

-- Walking: of the numbers of group g, those from index p on have been met. They are all different, and theirs are the stamps g + 1.
module _ (xs : List ℕ) (g : ℕ) where
  pub record Walking (stamps : List ℕ) (p : ℕ) : Type 0 where
    pub long : length stamps ≡ rests
    pub inside : p ≤ length xs
    pub own : (q : ℕ) → p ≡ suc q → group_of xs q ≡ g
    pub most : (k : ℕ) → at stamps k ≤ g + 1
    pub met : (j : ℕ) → p ≤ j → j < length xs → group_of xs j ≡ g → at stamps (rest_of xs j) ≡ g + 1
    pub origin : (k : ℕ) → at stamps k ≡ g + 1 → (j : ℕ) × (p ≤ j) × (j < length xs) × (group_of xs j ≡ g) × (rest_of xs j ≡ k)
    pub apart : (i j : ℕ) → p ≤ i → i < j → j < length xs → group_of xs i ≡ g → group_of xs j ≡ g → rest_of xs i ≡ rest_of xs j → ⊥

  pub walking_none : (stamps : List ℕ) (p : ℕ) → length stamps ≡ rests → ((k : ℕ) → at stamps k ≤ g)
      → p ≡ last_in (group_of xs) g (length xs) → Walking stamps p
  walking_none stamps p n low e =
      let b = last_le (group_of xs) g (length xs) in
      record {
        long = n;
        inside = omega arith;
        own = λ q f. last_own (group_of xs) g (length xs) q (sym e ∙ f);
        most = λ k. let l = low k in omega arith;
        met = λ j h c f. absurd (last_none (group_of xs) g (length xs) j (omega arith) c f);
        origin = λ k f. let l = low k in absurd (omega arith);
        apart = λ i j h c d f. absurd (last_none (group_of xs) g (length xs) i (omega arith) (omega arith) f);
      }

  module _ (stamps : List ℕ) (q : ℕ) (w : Walking stamps (suc q)) where
    met_more : (p : ℕ) → (at stamps (rest_of xs q) ≡ g + 1 → ⊥) → p ≡ last_in (group_of xs) (group_of xs q) q
        → Walking (set stamps (rest_of xs q) (g + 1)) p
    met_more p free back =
        let n = w.long in
        let b = w.inside in
        let mine : group_of xs q ≡ g = w.own q refl in
        let e : p ≡ last_in (group_of xs) g q = back ∙ ap (λ (x : ℕ). last_in (group_of xs) x q) mine in
        let c = last_le (group_of xs) g q in
        let none : (j : ℕ) → p ≤ j → j < q → group_of xs j ≡ g → ⊥ = λ j h. last_none (group_of xs) g q j (omega arith) in
        let here : at (set stamps (rest_of xs q) (g + 1)) (rest_of xs q) ≡ g + 1 =
        get_or-set_same stamps (rest_of xs q) (g + 1) 0 (omega arith) in
        let there : (k : ℕ) → (k ≡ rest_of xs q → ⊥) → at (set stamps (rest_of xs q) (g + 1)) k ≡ at stamps k =
        λ k d. get_or-set_other stamps (rest_of xs q) k (g + 1) 0 d in
        record {
          long = length-set stamps (rest_of xs q) (g + 1) ∙ n;
          inside = omega arith;
          own = λ r f. last_own (group_of xs) g q r (sym e ∙ f);
          most = λ k.
              ⊎_elim (λ (z : k ≡ rest_of xs q). rw (z, here) (omega arith)) (λ (z : k ≡ rest_of xs q → ⊥). rw (there k z) (w.most k))
              (eq? k (rest_of xs q));
          met = λ j h i f.
              ⊎_elim (λ (z : rest_of xs j ≡ rest_of xs q). ap (at (set stamps (rest_of xs q) (g + 1))) z ∙ here)
              (λ (z : rest_of xs j ≡ rest_of xs q → ⊥).
              there (rest_of xs j) z
              ∙ ⊎_elim (λ (y : j < q). absurd (none j h y f))
              (λ (y : q ≤ j).
              ⊎_elim (λ (x : j ≡ q). absurd (z (ap (rest_of xs) x))) (λ (x : j ≡ q → ⊥). w.met j (omega arith) i f) (eq? j q)) (lt? j q))
              (eq? (rest_of xs j) (rest_of xs q));
          origin = λ k f.
              ⊎_elim (λ (z : k ≡ rest_of xs q). (q, omega arith, omega arith, mine, sym z))
              (λ (z : k ≡ rest_of xs q → ⊥). let r = w.origin k (sym (there k z) ∙ f) in let h = r.1 in (r.0, omega arith, r.2, r.3, r.4))
              (eq? k (rest_of xs q));
          apart = λ i j h a d f s t.
              ⊎_elim (λ (y : i < q). none i h y f)
              (λ (y : q ≤ i).
              ⊎_elim (λ (x : i ≡ q). free (ap (λ (v : ℕ). at stamps v) (ap (rest_of xs) (sym x) ∙ t) ∙ w.met j (omega arith) d s))
              (λ (x : i ≡ q → ⊥). w.apart i j (omega arith) a d f s t) (eq? i q)) (lt? i q);
        }

    -- A stamp that is there already is that of an equal number.
    met_twice : at stamps (rest_of xs q) ≡ g + 1 → distinct xs ≡ false
    met_twice e =
        let r = w.origin (rest_of xs q) e in
        let h = r.1 in
        equal_distinct xs q r.0 (omega arith) r.2 (same_number xs q r.0 (w.own q refl ∙ sym r.3) (sym r.4))

  module _ (stamps : List ℕ) (p : ℕ) (w : Walking stamps p) (some : p ≡ 0 → ⊥) where
    before : Walking stamps (suc (p - 1))
    before = subst (Walking stamps) (let z : p ≡ suc (p - 1) = omega arith in z) w

    pub walking_more : (at stamps (rest_of xs (p - 1)) ≡ g + 1 → ⊥) → (next : List ℕ) → Back xs next
        → Walking (set stamps (rest_of xs (p - 1)) (g + 1)) (at next (p - 1))
    walking_more free next back =
        met_more stamps (p - 1) before (at next (p - 1)) free (back (p - 1) (let b = w.inside in omega arith))

    pub walking_falls : (next : List ℕ) → Back xs next → at next (p - 1) < p
    walking_falls next back =
        let b = w.inside in
        let e = back (p - 1) (omega arith) in
        let c = last_le (group_of xs) (group_of xs (p - 1)) (p - 1) in
        omega arith

    pub walking_meets : at stamps (rest_of xs (p - 1)) ≡ g + 1 → distinct xs ≡ false
    walking_meets = met_twice stamps (p - 1) before

  pub walking_ends : (stamps : List ℕ) (p : ℕ) → Walking stamps p → p ≡ 0 → Apart xs g
  walking_ends stamps p w e i j h = w.apart i j (omega arith) h

-- Group after group: those below g have been walked, and left no higher stamps.
module _ (xs : List ℕ) where
  pub record Grouping (stamps : List ℕ) (g : ℕ) : Type 0 where
    pub long : length stamps ≡ rests
    pub most : (k : ℕ) → at stamps k ≤ g
    pub apart : (h : ℕ) → h < g → Apart xs h

  pub grouping_none : (stamps : List ℕ) → length stamps ≡ rests → ((k : ℕ) → at stamps k ≤ 0) → Grouping stamps 0
  grouping_none stamps n low = record { long = n; most = low; apart = λ h b. absurd (not-suc-le-zero b) }

  pub grouping_more : (stamps new : List ℕ) (g : ℕ) → Grouping stamps g → length new ≡ length stamps → Apart xs g
      → ((k : ℕ) → at new k ≤ g + 1) → Grouping new (g + 1)
  grouping_more stamps new g w n a low =
      record {
        long = n ∙ w.long;
        most = low;
        apart = λ h b. ⊎_elim (λ (e : h ≡ g). subst (Apart xs) (sym e) a) (λ (d : h ≡ g → ⊥). w.apart h (omega arith)) (eq? h g);
      }

  -- Equal numbers are of one group.
  pub grouping_ends : (stamps : List ℕ) (g : ℕ) → Grouping stamps g → groups ≤ g → ((i : ℕ) → at xs i < 2 ^ 32) → true ≡ distinct xs
  grouping_ends stamps g w h word =
      sym (differ_distinct xs (λ i j a b e.
      let s = word i in
      w.apart (group_of xs i) (omega arith) i j a b refl (ap (λ (x : ℕ). x / rests) (sym e)) (ap (λ (x : ℕ). x % rests) e)))
