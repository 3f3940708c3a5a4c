-- Every remaining sector is listed or reached: what the branches of a first member leave out is linked to what they list.
use Prim.Native.Nat.{ℕ, zero, suc, ◌≤◌, ◌<◌}
use mathlib.Core.Path.{◌≡◌, refl, sym, subst}
use mathlib.Core.Logic.{⊎_elim}
use mathlib.Core.Bool.{Bool, true, false, cond, ◌&&◌, ◌||◌, true≢false}
use mathlib.Core.List.{List, [], ◌∷◌}
use native.Mathlib.Omega.{arith}
use lib.Dec.{ltb}
use borrow.Author.Tests.{lt-ltb, le-ltb, ltb-true, ne_eqb}
use Rattle.layout.specs.Bounded.{count_below, best, elem}
use Rattle.layout.specs.MapSector.{View}
use Rattle.volume.specs.Tables.{Tables}
use Rattle.volume.specs.Commit.{branches_in, older_key, listing}
use Rattle.laws.proofs.Bounded.{bool?, eq?, and_l, and_r, and_i, or_cases, cond_true, cond_false, elem_cons, elem_here, elem_there, best_most, best_below, count_before, count_less}

-- Linked: listed, or a branch of a linked remaining sector with a higher number.
pub data Linked (pieces : ℕ) (t : Tables) (view : View) (remaining : ℕ → Bool) (listed : List ℕ) : ℕ → Type 0 where
  direct : {p : ℕ} → p < pieces → remaining p ≡ true → elem (t.place p) listed ≡ true → Linked pieces t view remaining listed p
  via : {q p : ℕ} → Linked pieces t view remaining listed q → p < pieces → remaining p ≡ true
      → elem (t.place p) (branches_in (view (t.place q))) ≡ true → t.number p < t.number q → Linked pieces t view remaining listed p

pub linked_below : {pieces : ℕ} {t : Tables} {view : View} {remaining : ℕ → Bool} {listed : List ℕ} {p : ℕ}
    → Linked pieces t view remaining listed p → p < pieces
linked_below (direct h r e) = h
linked_below (via l h r e lt) = h

pub linked_remaining : {pieces : ℕ} {t : Tables} {view : View} {remaining : ℕ → Bool} {listed : List ℕ} {p : ℕ}
    → Linked pieces t view remaining listed p → remaining p ≡ true
linked_remaining (direct h r e) = r
linked_remaining (via l h r e lt) = r

module _ (t : Tables) (remaining : ℕ → Bool) (bound q : ℕ) where
  key_is : remaining q ≡ true → t.number q < bound → older_key t remaining bound q ≡ t.number q
  unfolding older_key
  key_is r h =
      cond_true (remaining q && ltb (t.number q) bound) (t.number q) 0
      (and_i (remaining q) (ltb (t.number q) bound) r (lt-ltb (t.number q) bound h))

  -- A key that is not 0 is that of a candidate.
  key_some : (older_key t remaining bound q ≡ 0 → ⊥)
      → (remaining q ≡ true) × (t.number q < bound) × (older_key t remaining bound q ≡ t.number q)
  unfolding older_key
  key_some f =
      ⊎_elim (λ (e : (remaining q && ltb (t.number q) bound) ≡ true). (
        and_l (remaining q) (ltb (t.number q) bound) e,
        ltb-true (t.number q) bound (and_r (remaining q) (ltb (t.number q) bound) e),
        cond_true (remaining q && ltb (t.number q) bound) (t.number q) 0 e,
      ))
      (λ (e : (remaining q && ltb (t.number q) bound) ≡ false).
      absurd (f (cond_false (remaining q && ltb (t.number q) bound) (t.number q) 0 e)))
      (bool? (remaining q && ltb (t.number q) bound))

module _ (pieces : ℕ) (t : Tables) (view : View) (remaining : ℕ → Bool) where
  abbrev newest_of : ℕ → ℕ
  newest_of bound = best (older_key t remaining bound) pieces

  abbrev reached_next : ℕ → (ℕ → Bool) → ℕ → Bool
  reached_next bound reached q =
      reached q
      || (elem (t.place q) (branches_in (view (t.place (newest_of bound)))) && ltb (t.number q) (t.number (newest_of bound)))

  abbrev rest : ℕ → ℕ → (ℕ → Bool) → List ℕ
  rest steps bound reached = listing pieces t view remaining steps (t.number (newest_of bound)) (reached_next bound reached)

  -- One more step of the listing.
  listing_end : (steps bound : ℕ) (reached : ℕ → Bool) → older_key t remaining bound (newest_of bound) ≡ 0
      → listing pieces t view remaining (suc steps) bound reached ≡ []
  unfolding listing
  listing_end steps bound reached e = rw e refl

  listing_more : (steps bound : ℕ) (reached : ℕ → Bool) → (older_key t remaining bound (newest_of bound) ≡ 0 → ⊥)
      → listing pieces t view remaining (suc steps) bound reached
      ≡ cond (reached (newest_of bound)) (rest steps bound reached) (t.place (newest_of bound) ∷ rest steps bound reached)
  unfolding listing
  listing_more steps bound reached f = rw (ne_eqb (older_key t remaining bound (newest_of bound)) 0 f) refl

  -- What is listed is the place of a remaining piece.
  pub listing_places : 0 < pieces → (steps bound : ℕ) (reached : ℕ → Bool) (k : ℕ)
      → elem k (listing pieces t view remaining steps bound reached) ≡ true
      → (p : ℕ) × (p < pieces) × (remaining p ≡ true) × (t.place p ≡ k)
  unfolding listing elem
  listing_places some zero bound reached k e = absurd (true≢false (sym e))
  listing_places some (suc steps) bound reached k e =
      ⊎_elim (λ (z : older_key t remaining bound (newest_of bound) ≡ 0). absurd (true≢false (sym (rw (listing_end steps bound reached z) at e))))
      (λ (z : older_key t remaining bound (newest_of bound) ≡ 0 → ⊥).
      let later = listing_places some steps (t.number (newest_of bound)) (reached_next bound reached) k in
      ⊎_elim (λ (y : reached (newest_of bound) ≡ true). later (rw (listing_more steps bound reached z, y) at e))
      (λ (y : reached (newest_of bound) ≡ false).
      ⊎_elim (λ (x : k ≡ t.place (newest_of bound)).
      (newest_of bound, best_below (older_key t remaining bound) pieces some, (key_some t remaining bound (newest_of bound) z).0, sym x))
      later (elem_cons k (t.place (newest_of bound)) (rest steps bound reached) (rw (listing_more steps bound reached z, y) at e)))
      (bool? (reached (newest_of bound))))
      (eq? (older_key t remaining bound (newest_of bound)) 0)

  module _ (some : 0 < pieces) (once : (p q : ℕ) → p < pieces → q < pieces → t.number p ≡ t.number q → p ≡ q) (listed : List ℕ) where
    abbrev older : ℕ → ℕ → Bool
    older bound q = remaining q && ltb (t.number q) bound

    pub listing_covers : (steps bound : ℕ) (reached : ℕ → Bool)
        → ((k : ℕ) → elem k (listing pieces t view remaining steps bound reached) ≡ true → elem k listed ≡ true)
        → ((q : ℕ) → q < pieces → remaining q ≡ true → reached q ≡ true → Linked pieces t view remaining listed q)
        → count_below (older bound) pieces ≤ steps
        → (p : ℕ) → p < pieces → remaining p ≡ true → 1 ≤ t.number p → t.number p < bound → Linked pieces t view remaining listed p
    listing_covers zero bound reached sub ok fuel p h r low b =
        let x = count_before (older bound) p pieces h (and_i (remaining p) (ltb (t.number p) bound) r (lt-ltb (t.number p) bound b)) in
        absurd (omega arith)
    listing_covers (suc steps) bound reached sub ok fuel p h r low b =
        let top = newest_of bound in
        let most = best_most (older_key t remaining bound) pieces p h in
        let mine = key_is t remaining bound p r b in
        let some_key : older_key t remaining bound top ≡ 0 → ⊥ = λ (z : older_key t remaining bound top ≡ 0). omega arith in
        let is = key_some t remaining bound top some_key in
        let top_below = best_below (older_key t remaining bound) pieces some in
        let more = listing_more steps bound reached some_key in
        let is2 = is.2 in
        let is1 = is.1 in
        let link : Linked pieces t view remaining listed top =
        ⊎_elim (λ (y : reached top ≡ true). ok top top_below is.0 y)
        (λ (y : reached top ≡ false).
        direct top_below is.0 (sub (t.place top) (rw (more, y) (elem_here (t.place top) (rest steps bound reached)))))
        (bool? (reached top)) in
        let sub' : (k : ℕ) → elem k (rest steps bound reached) ≡ true → elem k listed ≡ true =
        λ k e. sub k
        (⊎_elim (λ (y : reached top ≡ true). rw (more, y) e)
        (λ (y : reached top ≡ false). rw (more, y) (elem_there k (t.place top) (rest steps bound reached) e)) (bool? (reached top))) in
        let ok' : (q : ℕ) → q < pieces → remaining q ≡ true → reached_next bound reached q ≡ true → Linked pieces t view remaining listed q =
        λ q i s e.
        ⊎_elim (ok q i s)
        (λ (y : (elem (t.place q) (branches_in (view (t.place top))) && ltb (t.number q) (t.number top)) ≡ true).
        via link i s (and_l (elem (t.place q) (branches_in (view (t.place top)))) (ltb (t.number q) (t.number top)) y)
        (ltb-true (t.number q) (t.number top)
        (and_r (elem (t.place q) (branches_in (view (t.place top)))) (ltb (t.number q) (t.number top)) y)))
        (or_cases (reached q) (elem (t.place q) (branches_in (view (t.place top))) && ltb (t.number q) (t.number top)) e) in
        let fewer = count_less (older (t.number top)) (older bound) pieces top
        (λ q i e.
        let s = and_l (remaining q) (ltb (t.number q) (t.number top)) e in
        let v = ltb-true (t.number q) (t.number top) (and_r (remaining q) (ltb (t.number q) (t.number top)) e) in
        and_i (remaining q) (ltb (t.number q) bound) s (lt-ltb (t.number q) bound (omega arith)))
        top_below
        (rw (is.0, le-ltb (t.number top) (t.number top) (omega arith)) refl)
        (and_i (remaining top) (ltb (t.number top) bound) is.0 (lt-ltb (t.number top) bound is.1)) in
        ⊎_elim (λ (z : t.number p ≡ t.number top).
        subst (Linked pieces t view remaining listed) (sym (once p top h top_below z)) link)
        (λ (z : t.number p ≡ t.number top → ⊥).
        listing_covers steps (t.number top) (reached_next bound reached) sub' ok' (omega arith) p h r low (omega arith))
        (eq? (t.number p) (t.number top))
