-- The signed sectors as a list: a loop that lists them from the back, and one that goes through the list.
use Prim.Native.Nat.{ℕ, zero, suc, ◌+◌, ◌-◌, ◌≤◌, ◌<◌}
use mathlib.Core.Path.{◌≡◌, refl, sym, ◌∙◌, ap, subst}
use mathlib.Core.Logic.{⊎_elim}
use mathlib.Core.Bool.{Bool, true, false, not}
use mathlib.Core.List.{List, [], ◌∷◌}
use mathlib.Core.Option.{none, some}
use native.Mathlib.Numerals.{add-one}
use native.Mathlib.Omega.{arith}
use lib.ListN.{length, take, drop, set, length-set, length-drop}
use lib.Seq.{take_all, drop-length, drop-cons, drop-set-lt, get_or-set_same}
use borrow.Author.Tests.{ne_eqb}
use Rattle.layout.specs.Bounded.{at, gathered, is_zero}
use Rattle.layout.specs.MapSector.{MapSector, View}
use Rattle.volume.specs.Recover.{number_in, piece_in, signed_numbers}
use Rattle.laws.proofs.Bounded.{bool?, gathered_hit, gathered_miss}
use Rattle.signed.specs.Signed.{signed_sectors, signed_pieces, Listed, stepped}

-- From `from` on stand the values of those below k that pass a test, the last first.
module _ (test : ℕ → Bool) (value : ℕ → ℕ) (xs : List ℕ) where
  abbrev Stands : ℕ → ℕ → Type 0
  Stands from k = drop from xs ≡ gathered test value [] k

  module _ (from k : ℕ) (s : Stands from k) where
    stands_skips : test k ≡ false → Stands from (suc k)
    stands_skips e = s ∙ sym (gathered_miss test value [] k e)

    stands_more : test k ≡ true → (x : ℕ) → x ≡ value k → 0 < from → from ≤ length xs → drop (from - 1) (set xs (from - 1) x) ≡ gathered test value [] (suc k)
    stands_more e x f pos inside =
        let there : from - 1 < length (set xs (from - 1) x) = simp length-set (omega arith) in
        let next : suc (from - 1) ≡ from = omega arith in
        drop-cons (set xs (from - 1) x) (from - 1) 0 there
        ∙ ap (λ (y : ℕ). y ∷ drop (suc (from - 1)) (set xs (from - 1) x)) (get_or-set_same xs (from - 1) x 0 (omega arith) ∙ f)
        ∙ ap (λ (t : List ℕ). value k ∷ t) (drop-set-lt (suc (from - 1)) xs (from - 1) x (omega arith) ∙ ap (λ (y : ℕ). drop y xs) next ∙ s)
        ∙ sym (gathered_hit test value [] k e)

module _ (view : View) where
  abbrev numbered : ℕ → Bool
  numbered k = not (is_zero (number_in (view k)))

  unsigned : (k : ℕ) → view k ≡ none → numbered k ≡ false
  unfolding number_in
  unsigned k e = ap (λ o. not (is_zero (number_in o))) e

  signed : (k : ℕ) (m : MapSector) → view k ≡ some m → (m.number ≡ 0 → ⊥) → numbered k ≡ true
  unfolding number_in
  signed k m e d = ap (λ o. not (is_zero (number_in o))) e ∙ ap not (ne_eqb m.number 0 d)

  -- The sectors below k are listed in three arrays of one length.
  pub record Listing (room : ℕ) (sectors numbers pieces : List ℕ) (from k : ℕ) : Type 0 where
    pub long : length sectors ≡ room
    pub long' : length numbers ≡ room
    pub long'' : length pieces ≡ room
    pub inside : from ≤ room
    pub left : room ≤ from + k
    pub listed : Listed view k (drop from sectors) (drop from numbers) (drop from pieces)

  pub listing_none : (room : ℕ) (sectors numbers pieces : List ℕ) → length sectors ≡ room → length numbers ≡ room → length pieces ≡ room
      → Listing room sectors numbers pieces room 0
  unfolding signed_sectors signed_numbers signed_pieces gathered
  listing_none room sectors numbers pieces e f g =
      record {
        long = e;
        long' = f;
        long'' = g;
        inside = omega arith;
        left = omega arith;
        listed = record {
          sector = subst (λ x. drop x sectors ≡ []) e (drop-length sectors);
          number = subst (λ x. drop x numbers ≡ []) f (drop-length numbers);
          piece = subst (λ x. drop x pieces ≡ []) g (drop-length pieces);
        };
      }

  module _ (room : ℕ) (sectors numbers pieces : List ℕ) (from k : ℕ) (l : Listing room sectors numbers pieces from k) where
    pub listing_skips : view k ≡ none → Listing room sectors numbers pieces from (k + 1)
    unfolding signed_sectors signed_numbers signed_pieces
    listing_skips e =
        let left = l.left in
        rw add-one
        (record {
          long = l.long;
          long' = l.long';
          long'' = l.long'';
          inside = l.inside;
          left = omega arith;
          listed = record {
            sector = stands_skips numbered (λ j. j) sectors from k l.listed.sector (unsigned k e);
            number = stands_skips numbered (λ j. number_in (view j)) numbers from k l.listed.number (unsigned k e);
            piece = stands_skips numbered (λ j. piece_in (view j)) pieces from k l.listed.piece (unsigned k e);
          };
        })

    -- Where there is room for all sectors there is room for one more.
    pub listing_room : k < room → 0 < from
    listing_room h = let left = l.left in omega arith

    pub listing_lists : (m : MapSector) → view k ≡ some m → (m.number ≡ 0 → ⊥) → k < room → (sectors' numbers' pieces' : List ℕ)
        → sectors' ≡ set sectors (from - 1) k → numbers' ≡ set numbers (from - 1) m.number → pieces' ≡ set pieces (from - 1) m.piece
        → Listing room sectors' numbers' pieces' (from - 1) (k + 1)
    unfolding signed_sectors signed_numbers signed_pieces number_in piece_in
    listing_lists m e d h sectors' numbers' pieces' f g p =
        let left = l.left in
        let inside = l.inside in
        let a = l.long in
        let b = l.long' in
        let c = l.long'' in
        let t = signed k m e d in
        let pos = listing_room h in
        rw (add-one, f, g, p)
        (record {
          long = length-set sectors (from - 1) k ∙ a;
          long' = length-set numbers (from - 1) m.number ∙ b;
          long'' = length-set pieces (from - 1) m.piece ∙ c;
          inside = omega arith;
          left = omega arith;
          listed = record {
            sector = stands_more numbered (λ j. j) sectors from k l.listed.sector t k refl pos (omega arith);
            number = stands_more numbered (λ j. number_in (view j)) numbers from k l.listed.number t m.number (sym (ap number_in e)) pos (omega arith);
            piece = stands_more numbered (λ j. piece_in (view j)) pieces from k l.listed.piece t m.piece (sym (ap piece_in e)) pos (omega arith);
          };
        })

    pub listing_ends : (n : ℕ) → k ≡ n → Listed view n (drop from sectors) (drop from numbers) (drop from pieces)
    listing_ends n e = subst (λ (x : ℕ). Listed view x (drop from sectors) (drop from numbers) (drop from pieces)) e l.listed

-- What is lent of the three arrays, from an index on.
lent : List ℕ → ℕ → List ℕ
lent xs from = take (length xs - from) (drop from xs)

lent_end : (xs : List ℕ) (from : ℕ) → lent xs from ≡ drop from xs
unfolding lent
lent_end xs from = take_all (length xs - from) (drop from xs) (let d = length-drop from xs in omega arith)

module _ (view : View) (n room from : ℕ) where
  lent_long : (xs : List ℕ) → length xs ≡ room → length (lent xs from) ≡ room - from
  lent_long xs e = ap length (lent_end xs from) ∙ length-drop from xs ∙ ap (λ (x : ℕ). x - from) e

  pub lent_listed : (sectors numbers pieces : List ℕ) → length sectors ≡ room → length numbers ≡ room → length pieces ≡ room → room ≤ 65536
      → Listed view n (drop from sectors) (drop from numbers) (drop from pieces)
      → (length (take (length sectors - from) (drop from sectors)) ≤ 65536)
      × (length (take (length numbers - from) (drop from numbers)) ≡ length (take (length sectors - from) (drop from sectors)))
      × (length (take (length pieces - from) (drop from pieces)) ≡ length (take (length sectors - from) (drop from sectors)))
      × Listed view n (take (length sectors - from) (drop from sectors)) (take (length numbers - from) (drop from numbers)) (take (length pieces - from) (drop from pieces))
  unfolding lent
  lent_listed sectors numbers pieces e f g most l =
      let a = lent_long sectors e in
      let b = lent_long numbers f in
      let c = lent_long pieces g in (
        (let z : length (lent sectors from) ≤ 65536 = omega arith in z),
        b ∙ sym a,
        c ∙ sym a,
        record { sector = lent_end sectors from ∙ l.sector; number = lent_end numbers from ∙ l.number; piece = lent_end pieces from ∙ l.piece },
      )

-- Going through what is listed.
module _ {S : Type 0} (step : ℕ → ℕ → ℕ → S → S) where
  -- A loop from the back: so far the steps of those from index i on have been made.
  module _ (ks xs ys : List ℕ) where
    abbrev pub Stepped : ℕ → S → S → Type 0
    Stepped i s t = t ≡ stepped step (drop i ks) (drop i xs) (drop i ys) s

    pub stepped_none : (s : S) → Stepped (length ks) s s
    unfolding stepped
    stepped_none s = sym (ap (λ (l : List ℕ). stepped step l (drop (length ks) xs) (drop (length ks) ys) s) (drop-length ks))

    pub stepped_whole : (i : ℕ) (s t : S) → i ≡ 0 → Stepped i s t → t ≡ stepped step ks xs ys s
    stepped_whole i s t e h = h ∙ ap (λ (j : ℕ). stepped step (drop j ks) (drop j xs) (drop j ys) s) e

    next : (i : ℕ) (s : S) → i < length ks → i < length xs → i < length ys
        → stepped step (drop i ks) (drop i xs) (drop i ys) s ≡ step (at ks i) (at xs i) (at ys i) (stepped step (drop (suc i) ks) (drop (suc i) xs) (drop (suc i) ys) s)
    unfolding stepped
    next i s h h' h'' =
        ap (λ (l : List ℕ). stepped step l (drop i xs) (drop i ys) s) (drop-cons ks i 0 h)
        ∙ ap (λ (l : List ℕ). stepped step (at ks i ∷ drop (suc i) ks) l (drop i ys) s) (drop-cons xs i 0 h')
        ∙ ap (λ (l : List ℕ). stepped step (at ks i ∷ drop (suc i) ks) (at xs i ∷ drop (suc i) xs) l s) (drop-cons ys i 0 h'')

    pub stepped_more : (i : ℕ) (s t u : S) → 0 < i → i ≤ length ks → length xs ≡ length ks → length ys ≡ length ks → Stepped i s t
        → u ≡ step (at ks (i - 1)) (at xs (i - 1)) (at ys (i - 1)) t → Stepped (i - 1) s u
    stepped_more i s t u pos most e f h v =
        let same : i ≡ suc (i - 1) = omega arith in
        v
        ∙ ap (step (at ks (i - 1)) (at xs (i - 1)) (at ys (i - 1))) (h ∙ ap (λ (j : ℕ). stepped step (drop j ks) (drop j xs) (drop j ys) s) same)
        ∙ sym (next (i - 1) s (omega arith) (omega arith) (omega arith))

  -- What each sector's step keeps, and no step is needed for where none is listed, holds of the whole.
  module _ (test : ℕ → Bool) (f g : ℕ → ℕ) (P : ℕ → S → Type 0) (s : S) (start : P 0 s)
      (miss : (k : ℕ) (t : S) → test k ≡ false → P k t → P (suc k) t)
      (hit : (k : ℕ) (t : S) → test k ≡ true → P k t → P (suc k) (step k (f k) (g k) t)) where
    pub stepped_all : (n : ℕ) → P n (stepped step (gathered test (λ k. k) [] n) (gathered test f [] n) (gathered test g [] n) s)
    unfolding gathered stepped
    stepped_all zero = start
    stepped_all (suc n) =
        ⊎_elim (λ (e : test n ≡ true).
        rw (gathered_hit test (λ k. k) [] n e, gathered_hit test f [] n e, gathered_hit test g [] n e) (hit n _ e (stepped_all n)))
        (λ (e : test n ≡ false).
        rw (gathered_miss test (λ k. k) [] n e, gathered_miss test f [] n e, gathered_miss test g [] n e) (miss n _ e (stepped_all n))) (bool? (test n))
