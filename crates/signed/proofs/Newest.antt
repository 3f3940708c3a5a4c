-- The newest of the sectors below a bound: one loop for one key, and one loop for the keys of all pieces.
use Prim.Native.Nat.{ℕ, zero, suc, ◌+◌, ◌≤◌, ◌<◌}
use mathlib.Core.Path.{◌≡◌, refl, sym, ◌∙◌, ap, subst}
use mathlib.Core.Logic.{⊎_elim}
use mathlib.Core.Bool.{Bool, true, false, cond, ◌&&◌}
use mathlib.Core.List.{List}
use native.Mathlib.Numerals.{add-one}
use native.Mathlib.Omega.{arith}
use lib.ListN.{length, set, replicate}
use lib.Seq.{ext_get_or, get_or-set_same, get_or-set_other}
use lib.Dec.{eqb, leb, ltb}
use borrow.Author.Tests.{lt-ltb, le-ltb, eq-eqb, ne_eqb, le-leb, lt-leb}
use Rattle.layout.specs.Bounded.{at, best, list_from}
use Rattle.laws.proofs.Filling.{zeros_get}
use Rattle.laws.proofs.Bounded.{lt?, eq?, cond_true, cond_false, length_list_from, list_from_at}

module _ (key : ℕ → ℕ) where
  -- The greatest key below k, 0 for none.
  unfoldable pub top : ℕ → ℕ
  top zero = 0
  top (suc k) = key (best key (suc k))

  pub top_at : (k : ℕ) → 0 < k → top k ≡ key (best key k)
  unfolding top
  top_at zero h = absurd (omega arith)
  top_at (suc k) h = refl

  pub best_more : (k : ℕ) → top k < key k → best key (suc k) ≡ k
  unfolding top best
  best_more zero h = cond_false (ltb (key 0) (key 0)) 0 0 (le-ltb (key 0) (key 0) (omega arith))
  best_more (suc k) h = cond_true (ltb (key (best key (suc k))) (key (suc k))) (suc k) (best key (suc k)) (lt-ltb _ _ h)

  pub best_same : (k : ℕ) → key k ≤ top k → best key (suc k) ≡ best key k
  unfolding top best
  best_same zero h = cond_false (ltb (key 0) (key 0)) 0 0 (le-ltb (key 0) (key 0) (omega arith))
  best_same (suc k) h = cond_false (ltb (key (best key (suc k))) (key (suc k))) (suc k) (best key (suc k)) (le-ltb _ _ h)

  pub top_more : (k : ℕ) → top k < key k → top (suc k) ≡ key k
  unfolding top
  top_more k h = ap key (best_more k h)

  pub top_same : (k : ℕ) → key k ≤ top k → top (suc k) ≡ top k
  unfolding top best
  top_same zero h = ap key (best_same 0 h) ∙ (let z : key 0 ≡ 0 = omega arith in z)
  top_same (suc k) h = ap key (best_same (suc k) h)

  -- A loop that keeps the newest and its key.
  abbrev pub Newest : ℕ → ℕ → ℕ → Type 0
  Newest k found highest = (found ≡ best key k) × (highest ≡ top k)

  pub newest_none : Newest 0 0 0
  unfolding top best
  newest_none = (refl, refl)

  pub newest_more : (k found highest number found' highest' : ℕ) → Newest k found highest → number ≡ key k → highest < number → found' ≡ k → highest' ≡ number
      → Newest (k + 1) found' highest'
  newest_more k found highest number found' highest' w e h f g =
      let t = w.1 in
      let less : top k < key k = omega arith in
      rw add-one (f ∙ sym (best_more k less), g ∙ e ∙ sym (top_more k less))

  pub newest_same : (k found highest number found' highest' : ℕ) → Newest k found highest → number ≡ key k → number ≤ highest → found' ≡ found → highest' ≡ highest
      → Newest (k + 1) found' highest'
  newest_same k found highest number found' highest' w e h f g =
      let t = w.1 in
      let less : key k ≤ top k = omega arith in
      rw add-one (f ∙ w.0 ∙ sym (best_same k less), g ∙ w.1 ∙ sym (top_same k less))

pub listed : (f : ℕ → ℕ) (n i : ℕ) → i < n → at (list_from f 0 n) i ≡ f i
listed f n i h = list_from_at f 0 n i 0 h ∙ ap f (let z : 0 + i ≡ i = omega arith in z)

-- A key for each piece.
module _ (key : ℕ → ℕ → ℕ) (pieces : ℕ) where
  abbrev pub Live : ℕ → List ℕ → List ℕ → Type 0
  Live k places numbers = (p : ℕ) → p < pieces → (at places p ≡ best (key p) k) × (at numbers p ≡ top (key p) k)

  pub live_none : (places numbers : List ℕ) → places ≡ replicate pieces 0 → numbers ≡ replicate pieces 0 → Live 0 places numbers
  unfolding best top
  live_none places numbers e f p h = (
    ap (λ (xs : List ℕ). at xs p) e ∙ zeros_get pieces p,
    ap (λ (xs : List ℕ). at xs p) f ∙ zeros_get pieces p,
  )

  pub live_skip : (k : ℕ) (places numbers : List ℕ) → ((p : ℕ) → key p k ≡ 0) → Live k places numbers → Live (k + 1) places numbers
  live_skip k places numbers z w p h =
      let none = z p in
      let less : key p k ≤ top (key p) k = omega arith in
      let v = w p h in
      rw add-one (v.0 ∙ sym (best_same (key p) k less), v.1 ∙ sym (top_same (key p) k less))

  module _ (k q number : ℕ) (places numbers : List ℕ) (long : length places ≡ pieces) (long' : length numbers ≡ pieces) (inside : q < pieces)
      (own : key q k ≡ number) (none : (p : ℕ) → (p ≡ q → ⊥) → key p k ≡ 0) (w : Live k places numbers) where
    raised : at numbers q < number → Live (suc k) (set places q k) (set numbers q number)
    raised less p h =
        ⊎_elim (λ (z : p ≡ q).
        let t = (w q inside).1 in
        let more : top (key q) k < key q k = omega arith in
        subst (λ (x : ℕ). (at (set places q k) x ≡ best (key x) (suc k)) × (at (set numbers q number) x ≡ top (key x) (suc k))) (sym z) (
          get_or-set_same places q k 0 (omega arith) ∙ sym (best_more (key q) k more),
          get_or-set_same numbers q number 0 (omega arith) ∙ sym own ∙ sym (top_more (key q) k more),
        ))
        (λ (d : p ≡ q → ⊥).
        let e = none p d in
        let less : key p k ≤ top (key p) k = omega arith in (
          get_or-set_other places q p k 0 d ∙ (w p h).0 ∙ sym (best_same (key p) k less),
          get_or-set_other numbers q p number 0 d ∙ (w p h).1 ∙ sym (top_same (key p) k less),
        ))
        (eq? p q)

    stays : number ≤ at numbers q → Live (suc k) places numbers
    stays most p h =
        let t = (w p h).1 in
        let less : key p k ≤ top (key p) k =
        ⊎_elim (λ (z : p ≡ q).
        subst (λ (x : ℕ). key x k ≤ top (key x) k) (sym z) (let y = (w q inside).1 in omega arith))
        (λ (d : p ≡ q → ⊥). let e = none p d in omega arith) (eq? p q) in
        ((w p h).0 ∙ sym (best_same (key p) k less), t ∙ sym (top_same (key p) k less))

    pub live_raise : (places' numbers' : List ℕ) → places' ≡ cond (ltb (at numbers q) number) (set places q k) places
        → numbers' ≡ cond (ltb (at numbers q) number) (set numbers q number) numbers → Live (k + 1) places' numbers'
    live_raise places' numbers' e f =
        rw add-one
        (⊎_elim (λ (h : at numbers q < number).
        let t = lt-ltb (at numbers q) number h in
        rw (e ∙ cond_true _ (set places q k) places t, f ∙ cond_true _ (set numbers q number) numbers t) (raised h))
        (λ (h : number ≤ at numbers q).
        let t = le-ltb (at numbers q) number h in
        rw (e ∙ cond_false _ (set places q k) places t, f ∙ cond_false _ (set numbers q number) numbers t) (stays h))
        (lt? (at numbers q) number))

  pub live_all : (k n : ℕ) (places numbers : List ℕ) → k ≡ n → 0 < n → length places ≡ pieces → length numbers ≡ pieces → Live k places numbers
      → (places ≡ list_from (λ p. best (key p) n) 0 pieces) × (numbers ≡ list_from (λ p. key p (best (key p) n)) 0 pieces)
  live_all k n places numbers e some long long' w = (
    ext_get_or 0 places (list_from (λ p. best (key p) n) 0 pieces) (long ∙ sym (length_list_from (λ p. best (key p) n) 0 pieces))
        (λ i h. (w i (omega arith)).0 ∙ ap (best (key i)) e ∙ sym (listed (λ p. best (key p) n) pieces i (omega arith))),
    ext_get_or 0 numbers (list_from (λ p. key p (best (key p) n)) 0 pieces) (long' ∙ sym (length_list_from (λ p. key p (best (key p) n)) 0 pieces))
        (λ i h. (w i (omega arith)).1 ∙ ap (top (key i)) e ∙ top_at (key i) n some
        ∙ sym (listed (λ p. key p (best (key p) n)) pieces i (omega arith))),
  )

-- The keys of the pieces at a sector with number x and piece q: only its own piece has one, and only where x is up to c.
module _ (c x q : ℕ) where
  abbrev key_at : ℕ → ℕ
  key_at p = cond (eqb q p && leb x c) x 0

  same_or : (b : Bool) → x ≡ 0 → cond b x 0 ≡ 0
  same_or true z = z
  same_or false z = refl

  pub keys_zero : x ≡ 0 → (p : ℕ) → key_at p ≡ 0
  keys_zero z p = same_or (eqb q p && leb x c) z

  pub keys_above : c < x → (p : ℕ) → key_at p ≡ 0
  keys_above h p = rw (lt-leb x c h) (off (eqb q p))
    where
      off : (b : Bool) → cond (b && false) x 0 ≡ 0
      off true = refl
      off false = refl

  module _ (h : x ≤ c) where
    pub key_own : key_at q ≡ x
    key_own = rw (eq-eqb q q refl, le-leb x c h) refl

    pub keys_other : (p : ℕ) → (p ≡ q → ⊥) → key_at p ≡ 0
    keys_other p d = rw (ne_eqb q p (λ (z : q ≡ p). d (sym z))) refl
