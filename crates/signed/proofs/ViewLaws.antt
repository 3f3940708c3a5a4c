-- The signed sectors, as bits and as they were read, against the sectors as map sectors: all say the same.
use Prim.Native.Nat.{ℕ, ◌*◌, ◌-◌, ◌≤◌, ◌<◌}
use mathlib.Core.Path.{◌≡◌, refl, sym, ◌∙◌, ap, subst, fun_ext}
use mathlib.Core.Logic.{⊎_elim}
use mathlib.Core.Bool.{Bool, true, false, cond, ◌&&◌, true≢false}
use mathlib.Core.List.{List}
use mathlib.Core.Option.{Option, none, some}
use native.Mathlib.Omega.{arith}
use lib.ListN.{take, drop}
use lib.Dec.{eqb, leb, ltb}
use borrow.Author.Tests.{lt-ltb, le-ltb, ltb-true, leb-true}
use Rattle.geometry.specs.declared.Geometry.{Geometry}
use Rattle.geometry.specs.Geometry.{within, pieces_for, branch_room, entries_per_piece}
use Rattle.layout.specs.Bounded.{at, best, all, is_zero}
use Rattle.layout.specs.Word.{words_of, word_sum, starts_with}
use Rattle.layout.specs.MapSector.{MapSector, View, map_mark, branches_fit, branch_words, entry_words, valid, fields, decoded}
use Rattle.volume.specs.Recover.{number_in, piece_in, closing_number, piece_number, newest_closing, closed_up_to, image_view, is_uncommitted}
use Rattle.laws.proofs.Bounded.{bool?, lt?, and_l, and_r, cond_true, cond_false, tabled_past}
use Rattle.laws.proofs.Sizes.{view_at}
use Rattle.signed.specs.Signed.{below, is_signed, signed_at}
use Rattle.signed.proofs.Newest.{top, top_at}

-- The fifth of ten tests.
fifth : (a b c d e f g h i j : Bool) → (a && b && c && d && e && f && g && h && i && j) ≡ true → e ≡ true
fifth a b c d true f g h i j z = refl
fifth a b c d false f g h i j z = absurd (true≢false (sym z ∙ off a b c d f g h i j))
  where
    off : (a b c d f g h i j : Bool) → (a && b && c && d && false && f && g && h && i && j) ≡ false
    off true true true true f g h i j = refl
    off true true true false f g h i j = refl
    off true true false d f g h i j = refl
    off true false c d f g h i j = refl
    off false b c d f g h i j = refl

-- The third, the seventh and the ninth.
module _ (a b c d e f g h i j : Bool) (z : (a && b && c && d && e && f && g && h && i && j) ≡ true) where
  up_to_ninth : (a && b && c && d && e && f && g && h && i) ≡ true
  up_to_ninth = and_l (a && b && c && d && e && f && g && h && i) j z

  third : c ≡ true
  third =
      and_r (a && b) c
      (and_l (a && b && c) d (and_l (a && b && c && d) e (and_l (a && b && c && d && e) f
      (and_l (a && b && c && d && e && f) g (and_l (a && b && c && d && e && f && g) h (and_l (a && b && c && d && e && f && g && h) i up_to_ninth))))))

  ninth : i ≡ true
  ninth = and_r (a && b && c && d && e && f && g && h) i up_to_ninth

  seventh : g ≡ true
  seventh =
      and_r (a && b && c && d && e && f) g
      (and_l (a && b && c && d && e && f && g) h (and_l (a && b && c && d && e && f && g && h) i up_to_ninth))

-- A sector's number for a piece, by its number and its piece.
pub number_of_piece : (c p : ℕ) (o : Option MapSector) → cond (eqb (piece_in o) p && leb (number_in o) c) (number_in o) 0 ≡ piece_number c p o
unfolding piece_in number_in piece_number
number_of_piece c p none = none_of (eqb 0 p && leb 0 c)
  where
    none_of : (b : Bool) → cond {A = ℕ} b 0 0 ≡ 0
    none_of true = refl
    none_of false = refl
number_of_piece c p (some m) = refl

module _ (g : Geometry) (image : ℕ → List ℕ) where
  abbrev pub Seen : View
  Seen = image_view g image

  pub inside : (k : ℕ) → signed_at g image k ≡ true → k < g.n
  unfolding signed_at below
  inside k e = ltb-true k g.n (and_l (ltb k g.n) (is_signed g image k) e)

  pub is_valid : (k : ℕ) → signed_at g image k ≡ true → valid g (image k) (words_of (image k)) ≡ true
  unfolding signed_at below is_signed
  is_valid k e = and_r (ltb k g.n) (is_signed g image k) e

  pub view_signed : (k : ℕ) → signed_at g image k ≡ true → Seen k ≡ some (fields (words_of (image k)))
  unfolding decoded
  view_signed k e = view_at g image k (inside k e) ∙ cond_true (valid g (image k) (words_of (image k))) (some (fields (words_of (image k)))) none (is_valid k e)

  pub view_unsigned : (k : ℕ) → signed_at g image k ≡ false → Seen k ≡ none
  unfolding signed_at below is_signed decoded image_view
  view_unsigned k e =
      ⊎_elim (λ (h : k < g.n).
      view_at g image k h
      ∙ cond_false (valid g (image k) (words_of (image k))) (some (fields (words_of (image k)))) none
      (ap (λ (b : Bool). b && valid g (image k) (words_of (image k))) (sym (lt-ltb k g.n h)) ∙ e))
      (λ (h : g.n ≤ k). tabled_past none g.n (λ j. decoded g (image j)) k h) (lt? k g.n)

  -- A sector below n that was looked at.
  module _ (k : ℕ) (h : k < g.n) (s : List ℕ) (e : s ≡ image k) (r : Bool) (f : r ≡ valid g s (words_of s)) where
    pub valid_view : r ≡ true → Seen k ≡ some (fields (words_of s))
    unfolding decoded
    valid_view t =
        view_at g image k h ∙ ap (decoded g) (sym e) ∙ cond_true (valid g s (words_of s)) (some (fields (words_of s))) none (sym f ∙ t)

    pub invalid_view : r ≡ false → Seen k ≡ none
    unfolding decoded
    invalid_view t =
        view_at g image k h ∙ ap (decoded g) (sym e) ∙ cond_false (valid g s (words_of s)) (some (fields (words_of s))) none (sym f ∙ t)

  pub past_view : (k : ℕ) → g.n ≤ k → Seen k ≡ none
  unfolding image_view
  past_view k h = tabled_past none g.n (λ j. decoded g (image j)) k h

  -- A signed sector's number is from 1 on.
  pub valid_number : (s : List ℕ) → valid g s (words_of s) ≡ true → at (words_of s) 2 ≡ 0 → ⊥
  unfolding valid
  valid_number s e z =
      let ws = words_of s in
      let h = leb-true 1 (at ws 2)
      (third (starts_with map_mark s) (is_zero (word_sum ws)) (leb 1 (at ws 2)) (is_zero (at ws 3)) (ltb (at ws 4) (pieces_for g.l)) (leb (at ws 5) 1)
      (leb (at ws 6) branch_room) (eqb (at ws 7) g.l) (branches_fit g.n (at ws 6) (branch_words ws))
      (all is_zero (drop (g.l - entries_per_piece * at ws 4) (entry_words ws))) e) in
      omega arith

  -- A signed sector's piece is one of the pieces.
  pub valid_piece : (s : List ℕ) → valid g s (words_of s) ≡ true → at (words_of s) 4 < pieces_for g.l
  unfolding valid
  valid_piece s e =
      let ws = words_of s in
      ltb-true (at ws 4) (pieces_for g.l)
      (fifth (starts_with map_mark s) (is_zero (word_sum ws)) (leb 1 (at ws 2)) (is_zero (at ws 3)) (ltb (at ws 4) (pieces_for g.l)) (leb (at ws 5) 1)
      (leb (at ws 6) branch_room) (eqb (at ws 7) g.l) (branches_fit g.n (at ws 6) (branch_words ws))
      (all is_zero (drop (g.l - entries_per_piece * at ws 4) (entry_words ws))) e)

  pub signed_piece : (k : ℕ) → signed_at g image k ≡ true → at (words_of (image k)) 4 < pieces_for g.l
  signed_piece k e = valid_piece (image k) (is_valid k e)

  -- Its branches are sectors from 1 to n - 1.
  pub signed_count : (k : ℕ) → signed_at g image k ≡ true → at (words_of (image k)) 6 ≤ branch_room
  unfolding valid
  signed_count k e =
      let ws = words_of (image k) in
      leb-true (at ws 6) branch_room
      (seventh (starts_with map_mark (image k)) (is_zero (word_sum ws)) (leb 1 (at ws 2)) (is_zero (at ws 3)) (ltb (at ws 4) (pieces_for g.l)) (leb (at ws 5) 1)
      (leb (at ws 6) branch_room) (eqb (at ws 7) g.l) (branches_fit g.n (at ws 6) (branch_words ws))
      (all is_zero (drop (g.l - entries_per_piece * at ws 4) (entry_words ws))) (is_valid k e))

  pub signed_branches : (k : ℕ) → signed_at g image k ≡ true → all (within 1 (g.n - 1)) (take (at (words_of (image k)) 6) (branch_words (words_of (image k)))) ≡ true
  unfolding valid branches_fit
  signed_branches k e =
      let ws = words_of (image k) in
      and_l (all (within 1 (g.n - 1)) (take (at ws 6) (branch_words ws))) (all is_zero (drop (at ws 6) (branch_words ws)))
      (ninth (starts_with map_mark (image k)) (is_zero (word_sum ws)) (leb 1 (at ws 2)) (is_zero (at ws 3)) (ltb (at ws 4) (pieces_for g.l)) (leb (at ws 5) 1)
      (leb (at ws 6) branch_room) (eqb (at ws 7) g.l) (branches_fit g.n (at ws 6) (branch_words ws))
      (all is_zero (drop (g.l - entries_per_piece * at ws 4) (entry_words ws))) (is_valid k e))

  -- The uncommitted sectors lie below n.
  pub above_view : (c : ℕ) → below (is_uncommitted Seen c) g.n ≡ is_uncommitted Seen c
  unfolding below number_in
  above_view c = fun_ext (λ k.
      ⊎_elim (λ (h : k < g.n). rw (lt-ltb k g.n h) refl)
      (λ (h : g.n ≤ k). rw (le-ltb k g.n h) (sym (ap (λ (o : Option MapSector). ltb c (number_in o)) (past_view k h) ∙ le-ltb c 0 (omega arith))))
      (lt? k g.n))

  -- Where there is a number there is a piece.
  pub piece_inside : (k : ℕ) → (number_in (Seen k) ≡ 0 → ⊥) → piece_in (Seen k) < pieces_for g.l
  unfolding number_in piece_in
  piece_inside k d =
      ⊎_elim (λ (z : signed_at g image k ≡ true).
      subst (λ (x : ℕ). x < pieces_for g.l) (sym (ap piece_in (view_signed k z))) (signed_piece k z))
      (λ (z : signed_at g image k ≡ false). absurd (d (ap number_in (view_unsigned k z)))) (bool? (signed_at g image k))

  -- A sector with a number for a piece is signed, and that is its number.
  pub piece_signed : (c p k : ℕ) → (piece_number c p (Seen k) ≡ 0 → ⊥) → Seen k ≡ some (fields (words_of (image k)))
  unfolding piece_number
  piece_signed c p k d =
      ⊎_elim (λ (z : signed_at g image k ≡ true). view_signed k z)
      (λ (z : signed_at g image k ≡ false). absurd (d (ap (piece_number c p) (view_unsigned k z)))) (bool? (signed_at g image k))

pub piece_number_lem : (c p : ℕ) (o : Option MapSector) → (piece_number c p o ≡ 0 → ⊥) → piece_number c p o ≡ number_in o
unfolding piece_number number_in
piece_number_lem c p none d = refl
piece_number_lem c p (some m) d = go (eqb m.piece p && leb m.number c) d
  where
    go : (b : Bool) → (cond b m.number 0 ≡ 0 → ⊥) → cond b m.number 0 ≡ m.number
    go true f = refl
    go false f = absurd (f refl)

-- The newest closing sector, as a loop found it.
pub no_closing : (o : Option MapSector) → o ≡ none → 0 ≡ closing_number o
unfolding closing_number
no_closing o e = sym (ap closing_number e)

module _ (view : View) (k n : ℕ) where
  pub is_newest : (tail : ℕ) → k ≡ n → tail ≡ best (λ j. closing_number (view j)) k → tail ≡ newest_closing n view
  unfolding newest_closing
  is_newest tail e f = f ∙ ap (best (λ j. closing_number (view j))) e

  pub is_closed : (highest : ℕ) → k ≡ n → 0 < n → highest ≡ top (λ j. closing_number (view j)) k → highest ≡ closed_up_to n view
  unfolding closed_up_to newest_closing
  is_closed highest e h f = f ∙ ap (top (λ j. closing_number (view j))) e ∙ top_at (λ j. closing_number (view j)) n h
