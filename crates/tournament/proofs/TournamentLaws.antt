-- A match played, and what it leaves of the others; the greatest entry comes first; entries struck out.
use Prim.Native.Nat.{ℕ, zero, suc, ◌+◌, ◌*◌, ◌-◌, ◌/◌, ◌%◌, ◌≤◌, ◌<◌, max}
use mathlib.Core.Path.{◌≡◌, refl, sym, ◌∙◌, ap, subst}
use mathlib.Core.Logic.{◌⊎◌, inl, inr, ⊎_elim}
use mathlib.Core.Bool.{Bool, true, false, cond}
use mathlib.Core.List.{List}
use native.Mathlib.Nat.{not-suc-le-zero}
use native.Mathlib.Omega.{arith}
use lib.ListN.{length, set, length-set}
use lib.Seq.{get_or-set_same, get_or-set_other}
use lib.Dec.{eqb, ltb}
use borrow.Author.Tests.{lt-ltb, le-ltb, eq-eqb, ne_eqb}
use Rattle.layout.specs.Bounded.{at, best, updated}
use Rattle.laws.proofs.Bounded.{lt?, eq?, cond_true, cond_false, best_most, best_below}
use Rattle.tournament.specs.Tournament.{greater, ranked, key_at, first_struck, below, Played, Tournament, Replayed, Keyed}

-- The greater of two is their maximum.
pub max_greater : (a b : ℕ) → max a b ≡ greater a b
unfolding greater
max_greater a b = ⊎_elim (λ (z : a < b). rw (lt-ltb a b z) (omega arith)) (λ (z : b ≤ a). rw (le-ltb a b z) (omega arith)) (lt? a b)

-- The greater of two.
pub greater_is : (a b : ℕ) → ((a < b) × (greater a b ≡ b)) ⊎ ((b ≤ a) × (greater a b ≡ a))
unfolding greater
greater_is a b =
    ⊎_elim (λ (h : a < b). inl (h, rw (lt-ltb a b h) refl)) (λ (h : b ≤ a). inr (h, rw (le-ltb a b h) refl)) (lt? a b)

greater_either : (a b : ℕ) → greater a b ≡ greater b a
greater_either a b =
    ⊎_elim (λ x. ⊎_elim (λ y. let h = x.0 in let k = y.0 in absurd (omega arith)) (λ y. x.1 ∙ sym y.1) (greater_is b a))
    (λ x. ⊎_elim (λ y. x.1 ∙ sym y.1) (λ y. let h = x.0 in let k = y.0 in let e = x.1 in let f = y.1 in omega arith) (greater_is b a))
    (greater_is a b)

-- The match of place i, whichever of the two it is.
met : (t : List ℕ) (i : ℕ) → greater (at t i) (at t (i + 1 - 2 * (i % 2))) ≡ greater (at t (2 * (i / 2))) (at t (2 * (i / 2) + 1))
met t i =
    ⊎_elim (λ (z : i % 2 ≡ 0).
    ap (λ (x : ℕ). greater (at t x) (at t (i + 1 - 2 * (i % 2)))) (let e : i ≡ 2 * (i / 2) = omega arith in e)
    ∙ ap (λ (x : ℕ). greater (at t (2 * (i / 2))) (at t x)) (let e : i + 1 - 2 * (i % 2) ≡ 2 * (i / 2) + 1 = omega arith in e))
    (λ (z : i % 2 ≡ 0 → ⊥).
    greater_either (at t i) (at t (i + 1 - 2 * (i % 2)))
    ∙ ap (λ (x : ℕ). greater (at t x) (at t i)) (let e : i + 1 - 2 * (i % 2) ≡ 2 * (i / 2) = omega arith in e)
    ∙ ap (λ (x : ℕ). greater (at t (2 * (i / 2))) (at t x)) (let e : i ≡ 2 * (i / 2) + 1 = omega arith in e))
    (eq? (i % 2) 0)

pub other_below : (i : ℕ) → i < 512 → i + 1 - 2 * (i % 2) < 512
other_below i h =
    let d : i / 2 < 256 = omega arith in
    ⊎_elim (λ (z : i % 2 ≡ 0). let e : i ≡ 2 * (i / 2) = omega arith in omega arith) (λ (z : i % 2 ≡ 0 → ⊥). omega arith) (eq? (i % 2) 0)

-- One place changed, and the matches that do not see it.
module _ (t : List ℕ) (k v : ℕ) where
  away : (i : ℕ) → (i ≡ k → ⊥) → at t i ≡ at (set t k v) i
  away i d = sym (get_or-set_other t k i v 0 d)

  pub played_still : (i : ℕ) → (i ≡ k → ⊥) → (i ≡ k / 2 → ⊥) → Played t i → Played (set t k v) i
  played_still i d f p =
      sym (away i d) ∙ p
      ∙ ap (λ (x : ℕ). greater x (at t (2 * i + 1))) (away (2 * i) (λ (e : 2 * i ≡ k). f (omega arith)))
      ∙ ap (greater (at (set t k v) (2 * i))) (away (2 * i + 1) (λ (e : 2 * i + 1 ≡ k). f (omega arith)))

-- One match played.
module _ (t : List ℕ) (k : ℕ) where
  abbrev won : ℕ
  won = greater (at t (2 * k)) (at t (2 * k + 1))

  abbrev pub played_at : List ℕ
  played_at = set t k won

  play_here : 1 ≤ k → k < length t → Played played_at k
  play_here low high =
      get_or-set_same t k won 0 high
      ∙ ap (λ (x : ℕ). greater x (at t (2 * k + 1))) (away t k won (2 * k) (λ (e : 2 * k ≡ k). omega arith))
      ∙ ap (greater (at played_at (2 * k))) (away t k won (2 * k + 1) (λ (e : 2 * k + 1 ≡ k). omega arith))

  -- A place that is kept, and a match that is played now or was.
  play_kept : (i : ℕ) → (i ≡ k → ⊥) → at played_at i ≡ at t i
  play_kept i d = sym (away t k won i d)

  play_more : (i : ℕ) → 1 ≤ k → k < length t → (i ≡ k / 2 → ⊥) → ((i ≡ k → ⊥) → Played t i) → Played played_at i
  play_more i low high d p =
      ⊎_elim (λ (z : i ≡ k). subst (Played played_at) (sym z) (play_here low high))
      (λ (z : i ≡ k → ⊥). played_still t k won i z d (p z)) (eq? i k)

-- The matches among n entries, on the way up and from the last to the first.
module _ (n : ℕ) (before : List ℕ) where
  pub record Climbed (t : List ℕ) (i won : ℕ) : Type 0 where
    pub room : length t ≡ 512
    pub inside : i < 2 * n
    pub at_hand : won ≡ at t i
    pub others : (k : ℕ) → 1 ≤ k → k < n → (k ≡ i / 2 → ⊥) → Played t k
    pub kept : (k : ℕ) → n ≤ k → at t k ≡ at before k

  pub record Descended (t : List ℕ) (k : ℕ) : Type 0 where
    pub room : length t ≡ 512
    pub inside : k ≤ n
    pub done : (i : ℕ) → 1 ≤ i → k ≤ i → i < n → Played t i
    pub kept : (i : ℕ) → n ≤ i → at t i ≡ at before i

  pub climbed_on : (t : List ℕ) (i won m won' : ℕ) → n ≤ 256 → 1 < i → Climbed t i won → m ≡ i + 1 - 2 * (i % 2) → won' ≡ greater won (at t m)
      → Climbed (set t (i / 2) won') (i / 2) won'
  climbed_on t i won m won' few low c e f =
      let room = c.room in
      let inside = c.inside in
      let here = f ∙ ap (λ (x : ℕ). greater x (at t m)) c.at_hand ∙ ap (λ (x : ℕ). greater (at t i) (at t x)) e ∙ met t i in
      let is : set t (i / 2) won' ≡ played_at t (i / 2) = ap (set t (i / 2)) here in
      record {
        room = length-set t (i / 2) won' ∙ room;
        inside = omega arith;
        at_hand = sym (get_or-set_same t (i / 2) won' 0 (omega arith));
        others = λ k l h d.
            subst (λ (x : List ℕ). Played x k) (sym is) (play_more t (i / 2) k (omega arith) (omega arith) d (c.others k l h));
        kept = λ k h. ap (λ (x : List ℕ). at x k) is ∙ play_kept t (i / 2) k (λ (z : k ≡ i / 2). omega arith) ∙ c.kept k h;
      }

  pub climbed_up : (t : List ℕ) (i won : ℕ) → i ≤ 1 → Climbed t i won → Replayed n before t
  climbed_up t i won h c = record { played = λ k l b. c.others k l b (λ (z : k ≡ i / 2). omega arith); kept = c.kept }

  pub descended_on : (t t' : List ℕ) (k : ℕ) → n ≤ 256 → 1 < k → Descended t k → t' ≡ played_at t (k - 1) → length t' ≡ length t → Descended t' (k - 1)
  descended_on t t' k few low c e len =
      let room = c.room in
      let inside = c.inside in
      record {
        room = len ∙ room;
        inside = omega arith;
        done = λ i l b h.
            subst (λ (x : List ℕ). Played x i) (sym e)
            (play_more t (k - 1) i (omega arith) (omega arith) (λ (y : i ≡ (k - 1) / 2). omega arith)
            (λ (z : i ≡ k - 1 → ⊥). c.done i l (omega arith) h));
        kept = λ i h. ap (λ (x : List ℕ). at x i) e ∙ play_kept t (k - 1) i (λ (z : i ≡ k - 1). omega arith) ∙ c.kept i h;
      }

  pub descended_down : (t : List ℕ) (k : ℕ) → k ≤ 1 → Descended t k → Replayed n before t
  descended_down t k h c = record { played = λ i l b. c.done i l (omega arith) b; kept = c.kept }

-- One entry changed. Only the match that it plays first may be wrong then.
pub others_played : (n q v : ℕ) (t t' : List ℕ) → t' ≡ set t (n + q) v → ((k : ℕ) → 1 ≤ k → k < n → Played t k)
    → (k : ℕ) → 1 ≤ k → k < n → (k ≡ (n + q) / 2 → ⊥) → Played t' k
others_played n q v t t' e played k l h d =
    subst (λ (x : List ℕ). Played x k) (sym e) (played_still t (n + q) v k (λ (z : k ≡ n + q). omega arith) d (played k l h))

pub changed_replay : (n q v : ℕ) (t t' : List ℕ) {t'' : List ℕ} → t' ≡ set t (n + q) v → Replayed n t' t'' → Replayed n (set t (n + q) v) t''
changed_replay n q v t t' {t''} e r = subst (λ (x : List ℕ). Replayed n x t'') e r

-- Its matches are played anew.
module _ (n q k : ℕ) (t t' : List ℕ) (few : n ≤ 256) (inside : q < n) (room : length t ≡ 512) (replayed : Replayed n (set t (n + q) (ranked n q k)) t') where
  changed_at : (r : ℕ) → ((r ≡ q) × (at t' (n + r) ≡ ranked n q k)) ⊎ ((r ≡ q → ⊥) × (at t' (n + r) ≡ at t (n + r)))
  changed_at r =
      let kept = replayed.kept (n + r) (omega arith) in
      ⊎_elim (λ (z : r ≡ q).
      inl (z, kept ∙ ap (λ (x : ℕ). at (set t (n + q) (ranked n q k)) (n + x)) z ∙ get_or-set_same t (n + q) (ranked n q k) 0 (omega arith)))
      (λ (z : r ≡ q → ⊥). inr (z, kept ∙ get_or-set_other t (n + q) (n + r) (ranked n q k) 0 (λ (e : n + r ≡ n + q). z (omega arith))))
      (eq? r q)

  changed : (key : ℕ → ℕ) → Keyed n key t → Keyed n (updated key q k) t'
  unfolding key_at
  changed key s =
      record {
        tournament = record {
          played = replayed.played;
          entered = λ r h.
              ⊎_elim (λ w. let z = w.0 in let e = w.1 in omega arith)
              (λ w. let e = w.1 in let b = s.tournament.entered r h in omega arith) (changed_at r);
        };
        keys = λ r h.
            ⊎_elim (λ w.
            let e = w.1 in
            let x : at t' (n + r) / 256 ≡ k = omega arith in
            x ∙ sym (cond_true (eqb r q) k (key r) (eq-eqb r q w.0)))
            (λ w. ap (λ (x : ℕ). x / 256) w.1 ∙ s.keys r h ∙ sym (cond_false (eqb r q) k (key r) (ne_eqb r q w.0))) (changed_at r);
      }

  pub changed_to : (key key' : ℕ → ℕ) → Keyed n key t → ((r : ℕ) → r < n → updated key q k r ≡ key' r) → Keyed n key' t'
  changed_to key key' s same =
      let c = changed key s in
      record { tournament = c.tournament; keys = λ r h. c.keys r h ∙ same r h }

-- It is the first one.
pub struck_replay : (n q : ℕ) (t : List ℕ) {t' : List ℕ} → q ≡ best (key_at n t) n → Replayed n (set t (n + q) (ranked n q 0)) t'
    → Replayed n (first_struck n t) t'
struck_replay n q t {t'} e r = subst (λ (x : ℕ). Replayed n (set t (n + x) (ranked n x 0)) t') e r

-- The greatest key, of equal ones the lowest.
module _ (key : ℕ → ℕ) where
  lower_less : (n j : ℕ) → j < best key n → key j < key (best key n)
  unfolding best
  lower_less zero j h = absurd (not-suc-le-zero h)
  lower_less (suc n) j h =
      ⊎_elim (λ (z : key (best key n) < key n).
      let e : best key (suc n) ≡ n = rw (lt-ltb (key (best key n)) (key n) z) refl in
      subst (λ (x : ℕ). key j < key x) (sym e) (let m = best_most key n j (subst (λ (x : ℕ). j < x) e h) in omega arith))
      (λ (z : key n ≤ key (best key n)).
      let e : best key (suc n) ≡ best key n = rw (le-ltb (key (best key n)) (key n) z) refl in
      subst (λ (x : ℕ). key j < key x) (sym e) (lower_less n j (subst (λ (x : ℕ). j < x) e h))) (lt? (key (best key n)) (key n))

  pub best_is : (n k : ℕ) → k < n → ((j : ℕ) → j < n → key j ≤ key k) → ((j : ℕ) → j < k → key j < key k) → k ≡ best key n
  best_is n k h most less =
      let b = best key n in
      let m = best_most key n k h in
      let u = most b (best_below key n (omega arith)) in
      ⊎_elim (λ (z : k < b). let v = lower_less n k z in absurd (omega arith))
      (λ (z : b ≤ k).
      ⊎_elim (λ (y : b < k). let v = less b y in absurd (omega arith)) (λ (y : k ≤ b). let e : k ≡ b = omega arith in e) (lt? b k))
      (lt? k b)

-- The first place holds the greatest entry: nothing is greater than what stands above it, and what stands above came from an entry.
module _ (n : ℕ) (t : List ℕ) (played : (k : ℕ) → 1 ≤ k → k < n → Played t k) where
  loser : (k : ℕ) → 1 ≤ k → k < n → (at t (2 * k) ≤ at t k) × (at t (2 * k + 1) ≤ at t k)
  loser k l h =
      let p = played k l h in
      ⊎_elim (λ w. let e = w.1 in let d = w.0 in (omega arith, omega arith)) (λ w. let e = w.1 in let d = w.0 in (omega arith, omega arith))
      (greater_is (at t (2 * k)) (at t (2 * k + 1)))

  top : (f i : ℕ) → i < f → 1 ≤ i → i < 2 * n → at t i ≤ at t 1
  top zero i b l h = absurd (not-suc-le-zero b)
  top (suc f) i b l h =
      ⊎_elim (λ (z : 1 < i).
      let k = i / 2 in
      let r = top f k (omega arith) (omega arith) (omega arith) in
      let w = loser k (omega arith) (omega arith) in
      ⊎_elim (λ (y : i ≡ 2 * k). subst (λ (x : ℕ). at t x ≤ at t 1) (sym y) (let v = w.0 in omega arith))
      (λ (y : i ≡ 2 * k → ⊥).
      let e : i ≡ 2 * k + 1 = omega arith in
      subst (λ (x : ℕ). at t x ≤ at t 1) (sym e) (let v = w.1 in omega arith))
      (eq? i (2 * k)))
      (λ (z : i ≤ 1). let e : i ≡ 1 = omega arith in subst (λ (x : ℕ). at t x ≤ at t 1) (sym e) (omega arith))
      (lt? 1 i)

  from : (f i : ℕ) → 2 * n ≤ i + f → 1 ≤ i → i < 2 * n → (q : ℕ) × (q < n) × (at t i ≡ at t (n + q))
  from zero i b l h = absurd (omega arith)
  from (suc f) i b l h =
      ⊎_elim (λ (z : i < n).
      let p = played i l z in
      ⊎_elim (λ w. let r = from f (2 * i + 1) (omega arith) (omega arith) (omega arith) in (r.0, r.1, p ∙ w.1 ∙ r.2))
      (λ w. let r = from f (2 * i) (omega arith) (omega arith) (omega arith) in (r.0, r.1, p ∙ w.1 ∙ r.2))
      (greater_is (at t (2 * i)) (at t (2 * i + 1))))
      (λ (z : n ≤ i). (i - n, omega arith, ap (at t) (let e : i ≡ n + (i - n) = omega arith in e)))
      (lt? i n)

  pub first_most : (q : ℕ) → q < n → at t (n + q) ≤ at t 1
  first_most q h = top (suc (n + q)) (n + q) (omega arith) (omega arith) (omega arith)

  pub first_one : 0 < n → (q : ℕ) × (q < n) × (at t 1 ≡ at t (n + q))
  first_one h = from (2 * n) 1 (omega arith) (omega arith) (omega arith)

-- So what is entered there is the best of the keys.
module _ (n : ℕ) (t : List ℕ) (few : n ≤ 256) (some : 0 < n) (tournament : Tournament n t) where
  -- The entry that came first.
  winner : (q : ℕ) × (q < n) × (at t 1 ≡ at t (n + q)) × (q ≡ best (key_at n t) n)
  unfolding key_at
  winner =
      let w = first_one n t tournament.played some in
      let q = w.0 in
      let h = w.1 in
      let e = w.2 in
      let r = tournament.entered q h in (
        q,
        h,
        e,
        best_is (key_at n t) n q h
            (λ j b. let m = first_most n t tournament.played j b in omega arith)
            (λ j b. let m = first_most n t tournament.played j (omega arith) in let s = tournament.entered j (omega arith) in omega arith),
      )

  pub first_best : n - 1 - at t 1 % 256 ≡ best (key_at n t) n
  first_best =
      let w = winner in
      let h = w.1 in
      let e = w.2 in
      let r = tournament.entered w.0 h in
      (let z : n - 1 - at t 1 % 256 ≡ w.0 = omega arith in z) ∙ w.3

  pub first_rank : at t 1 % 256 < n
  first_rank =
      let w = winner in
      let h = w.1 in
      let e = w.2 in
      let r = tournament.entered w.0 h in
      omega arith

  -- With that entry struck out and its matches played anew.
  module _ (t' : List ℕ) (room : length t ≡ 512) (struck : Replayed n (first_struck n t) t') where
    struck_at : (r : ℕ) → r < n
        → ((r ≡ best (key_at n t) n) × (at t' (n + r) ≡ n - 1 - r)) ⊎ ((r ≡ best (key_at n t) n → ⊥) × (at t' (n + r) ≡ at t (n + r)))
    struck_at r h =
        ⊎_elim (λ w. let z = w.0 in let e = w.1 in inl (z, omega arith)) inr
        (changed_at n (best (key_at n t) n) 0 t t' few (best_below (key_at n t) n some) room struck r)

    still : Tournament n t'
    still =
        record {
          played = struck.played;
          entered = λ r h.
              ⊎_elim (λ w. let e = w.1 in omega arith) (λ w. let e = w.1 in let k = tournament.entered r h in omega arith) (struck_at r h);
        }

    pub struck_less : 256 ≤ at t 1 → at t' 1 < at t 1
    struck_less high =
        let w = winner in
        let v = first_one n t' struck.played some in
        let r = v.0 in
        let h = v.1 in
        let e = v.2 in
        let we = w.2 in
        let wq = w.3 in
        let m = first_most n t tournament.played r h in
        let a = tournament.entered r h in
        let b = tournament.entered w.0 w.1 in
        ⊎_elim (λ z. let y = z.1 in omega arith) (λ z. let y = z.1 in let d = z.0 in omega arith) (struck_at r h)

    -- A key that is not below the bound counts as 0 there, struck out or not.
    struck_below : (bound r : ℕ) → r < n → 256 * bound ≤ at t 1 → below bound (key_at n t') r ≡ below bound (key_at n t) r
    unfolding below key_at
    struck_below bound r h high =
        let w = winner in
        let e = w.2 in
        let q = w.3 in
        ⊎_elim (λ z.
        let y = z.0 in
        let s : at t' (n + r) / 256 ≡ 0 = let x = z.1 in omega arith in
        let same : at t 1 ≡ at t (n + r) = e ∙ ap (λ (x : ℕ). at t (n + x)) (q ∙ sym y) in
        ap (λ (x : ℕ). cond (ltb x bound) x 0) s ∙ either (ltb 0 bound) ∙ sym (rw (le-ltb (at t (n + r) / 256) bound (omega arith)) refl))
        (λ z. ap (λ (x : ℕ). cond (ltb (x / 256) bound) (x / 256) 0) z.1) (struck_at r h)
      where
        either : (b : Bool) → ◌≡◌ {A = ℕ} (cond b 0 0) 0
        either true = refl
        either false = refl

-- The entries from a bound on are struck out one by one.
pub record Striking (n bound : ℕ) (before t : List ℕ) : Type 0 where
  pub room : length t ≡ 512
  pub tournament : Tournament n t
  pub keys : (q : ℕ) → q < n → below bound (key_at n t) q ≡ below bound (key_at n before) q

module _ (n bound : ℕ) (before t : List ℕ) (few : n ≤ 256) (some : 0 < n) (s : Striking n bound before t) where
  pub striking_on : (t' : List ℕ) → 256 * bound ≤ at t 1 → length t' ≡ length t
      → Replayed n (first_struck n t) t' → Striking n bound before t'
  striking_on t' high len struck =
      record {
        room = len ∙ s.room;
        tournament = still n t few some s.tournament t' s.room struck;
        keys = λ q h. struck_below n t few some s.tournament t' s.room struck bound q h high ∙ s.keys q h;
      }

  pub striking_less : (t' : List ℕ) → 0 < bound → 256 * bound ≤ at t 1
      → Replayed n (first_struck n t) t' → at t' 1 < at t 1
  striking_less t' low high struck = struck_less n t few some s.tournament t' s.room struck (omega arith)

  pub striking_done : at t 1 < 256 * bound → Keyed n (below bound (key_at n before)) t
  unfolding below key_at
  striking_done low =
      record {
        tournament = s.tournament;
        keys = λ q h.
            let m = first_most n t s.tournament.played q h in
            sym (rw (lt-ltb (at t (n + q) / 256) bound (omega arith)) refl) ∙ s.keys q h;
      }

-- Entered one by one, then played.
pub record Entered (n : ℕ) (key : ℕ → ℕ) (t : List ℕ) (q : ℕ) : Type 0 where
  pub room : length t ≡ 512
  pub entries : (r : ℕ) → r < q → at t (n + r) ≡ ranked n r (key r)

module _ (n : ℕ) (key : ℕ → ℕ) (t : List ℕ) (q : ℕ) (few : n ≤ 256) (s : Entered n key t q) where
  pub entered_on : (t' : List ℕ) (k : ℕ) → q < n → k ≡ key q → t' ≡ set t (n + q) (ranked n q k) → length t' ≡ length t → Entered n key t' (q + 1)
  entered_on t' k h e f len =
      let room = s.room in
      record {
        room = len ∙ room;
        entries = λ r b.
            ap (λ (x : List ℕ). at x (n + r)) f
            ∙ ⊎_elim (λ (z : r ≡ q).
            ap (λ (x : ℕ). at (set t (n + q) (ranked n q k)) (n + x)) z ∙ get_or-set_same t (n + q) (ranked n q k) 0 (omega arith)
            ∙ ap (ranked n q) e ∙ ap (λ (x : ℕ). ranked n x (key x)) (sym z))
            (λ (z : r ≡ q → ⊥).
            get_or-set_other t (n + q) (n + r) (ranked n q k) 0 (λ (y : n + r ≡ n + q). z (omega arith)) ∙ s.entries r (omega arith)) (eq? r q);
      }

  pub entered_all : (t' : List ℕ) → n ≤ q → Replayed n t t' → Keyed n key t'
  unfolding key_at
  entered_all t' h p =
      record {
        tournament = record {
          played = p.played;
          entered = λ r b. let e = p.kept (n + r) (omega arith) in let k = s.entries r (omega arith) in omega arith;
        };
        keys = λ r b. let e = p.kept (n + r) (omega arith) in let k = s.entries r (omega arith) in omega arith;
      }

-- The first entry by the keys that the entries hold, and the keys below a bound.
module _ (n : ℕ) (key : ℕ → ℕ) (t : List ℕ) (s : Keyed n key t) where
  pub keyed_first : 0 < n → best (key_at n t) n ≡ best key n
  keyed_first h =
      let q = best (key_at n t) n in
      let b = best_below (key_at n t) n h in
      let k = s.keys q b in
      best_is key n q b
      (λ j d. let e = s.keys j d in let m = best_most (key_at n t) n j d in omega arith)
      (λ j d. let e = s.keys j (omega arith) in let m = lower_less (key_at n t) n j d in omega arith)

  pub keyed_below : (bound : ℕ) (t' : List ℕ) → Keyed n (below bound (key_at n t)) t' → Keyed n (below bound key) t'
  unfolding below
  keyed_below bound t' r =
      record { tournament = r.tournament; keys = λ q h. r.keys q h ∙ ap (λ (x : ℕ). cond (ltb x bound) x 0) (s.keys q h) }
