-- Live map sectors: their entries against the map's, and what a sector says, test by test.
use Prim.Native.Nat.{ℕ, ◌+◌, ◌*◌, ◌≤◌, ◌<◌}
use mathlib.Core.Path.{◌≡◌, refl, sym, ◌∙◌, ap, subst}
use mathlib.Core.Logic.{⊎_elim}
use mathlib.Core.Bool.{Bool, true, false, cond, not, ◌&&◌, true≢false}
use mathlib.Core.List.{List, []}
use mathlib.Core.Option.{Option, none, some}
use native.Mathlib.Numerals.{add-one}
use native.Mathlib.Omega.{arith}
use lib.ListN.{length, length-drop}
use lib.Seq.{ext_get_or}
use lib.Dec.{eqb, leb}
use borrow.Author.Tests.{leb-true, eqb-true, eq-eqb, ne_eqb}
use Rattle.geometry.specs.declared.Geometry.{Geometry}
use Rattle.state.specs.declared.State.{State}
use Rattle.geometry.specs.Geometry.{sector_bytes, pieces_for, used_bytes, geometry_fits}
use Rattle.layout.specs.Bounded.{at, all_below, same}
use Rattle.layout.specs.Word.{words_of}
use Rattle.layout.specs.MapSector.{MapSector, entry_words, fields, valid, decoded}
use Rattle.volume.specs.Tables.{Memory, sector_at, memory, tables_of, consistent, piece_entries, says_piece, live_valid}
use Rattle.volume.specs.Format.{tables_fit}
use Rattle.volume.specs.Calls.{view_of, state_fits, tables_agree}
use Rattle.laws.proofs.Bounded.{bool?, and_l, and_r, not_of, cond_true, cond_false, length_list_from, list_from_at, past_end, all_below_at, all_below_is}
use Rattle.laws.proofs.Names.{piece, sound}
use Rattle.laws.proofs.Words.{length_words_of}
use Rattle.laws.proofs.Lists.{same_is, same_not}
use Rattle.names.proofs.Marking.{not_false}
use Rattle.numbers.proofs.Numbering.{all_below_none, all_below_more, all_below_not}

entry_past : (map : List ℕ) (b : ℕ) → cond (leb (length map) b) 0 (at map b) ≡ at map b
entry_past map b =
    ⊎_elim (λ (z : leb (length map) b ≡ true).
    cond_true (leb (length map) b) 0 (at map b) z ∙ past_end map b (leb-true (length map) b z))
    (λ (z : leb (length map) b ≡ false). cond_false (leb (length map) b) 0 (at map b) z) (bool? (leb (length map) b))

-- The entries of a piece are the map's from 96p on.
module _ (bs map : List ℕ) (p : ℕ) (long : length bs ≡ 512) where
  abbrev Own : List ℕ
  Own = entry_words (words_of bs)

  abbrev Entries : List ℕ
  Entries = piece_entries (length map) (at map) p

  piece_at : (i : ℕ) → i < 96 → at Entries i ≡ at map (96 * p + i)
  unfolding piece_entries
  piece_at i h =
      list_from_at (λ b. cond (leb (length map) b) 0 (at map b)) (96 * p) 96 i 0 h ∙ entry_past map (96 * p + i)

  piece_long : length Entries ≡ 96
  unfolding piece_entries
  piece_long = length_list_from (λ b. cond (leb (length map) b) 0 (at map b)) (96 * p) 96

  own_long : length Own ≡ 96
  own_long = let e = length_words_of bs in simp length-drop (omega arith)

  -- Own entry i, and the map's.
  abbrev pub Equal : ℕ → ℕ → Bool
  Equal first i = eqb (at Own i) (at map (first + i))

  entries_same : all_below (Equal (96 * p)) 96 ≡ true → true ≡ same Own Entries
  entries_same f =
      let e : Own ≡ Entries = ext_get_or 0 Own Entries (own_long ∙ sym piece_long)
      (λ i k.
      let k' : i < 96 = (let o = own_long in omega arith) in
      eqb-true (at Own i) (at map (96 * p + i)) (all_below_at (Equal (96 * p)) 96 f i k') ∙ sym (piece_at i k')) in
      sym (subst (λ (xs : List ℕ). same Own xs ≡ true) e (same_is Own))

  entries_differ : all_below (Equal (96 * p)) 96 ≡ false → false ≡ same Own Entries
  entries_differ f =
      sym (same_not Own Entries (λ z.
      true≢false (sym (all_below_is (Equal (96 * p)) 96
      (λ i h. eq-eqb (at Own i) (at map (96 * p + i)) (ap (λ (xs : List ℕ). at xs i) z ∙ piece_at i h))) ∙ f)))

  pub entries_decided : (first : ℕ) → first ≡ 96 * p → (r : Bool) → r ≡ all_below (Equal first) 96 → r ≡ same Own Entries
  entries_decided first e r f =
      let g : r ≡ all_below (Equal (96 * p)) 96 = f ∙ ap (λ (k : ℕ). all_below (Equal k) 96) e in
      g ∙ ⊎_elim (λ (z : all_below (Equal (96 * p)) 96 ≡ true). z ∙ entries_same z) (λ (z : all_below (Equal (96 * p)) 96 ≡ false). z ∙ entries_differ z)
      (bool? (all_below (Equal (96 * p)) 96))

-- A test of every i below a bound, gathered.
pub gathered_none : (test : ℕ → Bool) → true ≡ all_below test 0
unfolding all_below
gathered_none test = refl

pub gathered_more : (test : ℕ → Bool) (i : ℕ) (good good' b : Bool) → good ≡ all_below test i → b ≡ test i → good' ≡ (good && b) → good' ≡ all_below test (i + 1)
unfolding all_below
gathered_more test i good good' b e f g = rw (add-one, ← e, ← f) g

pub gathered_all : (test : ℕ → Bool) (i n : ℕ) (good : Bool) → i ≡ n → good ≡ all_below test i → good ≡ all_below test n
gathered_all test i n good e f = f ∙ ap (all_below test) e

-- Three tests, in their order.
module _ (a b c : Bool) where
  first_fails : a ≡ false → false ≡ (a && b && c)
  first_fails p = rw p refl

  second_fails : a ≡ true → b ≡ false → false ≡ (a && b && c)
  second_fails p q = rw (p, q) refl

  third_decides : a ≡ true → b ≡ true → c ≡ (a && b && c)
  third_decides p q = rw (p, q) refl

module _ (g : Geometry) (p number : ℕ) (bs entries : List ℕ) where
  abbrev Says : Bool
  Says = says_piece (decoded g bs) p number entries

  abbrev Piece : Bool
  Piece = eqb (at (words_of bs) 4) p

  abbrev Number : Bool
  Number = eqb (at (words_of bs) 2) number

  abbrev Same : Bool
  Same = same (entry_words (words_of bs)) entries

  module _ (r : Bool) (h : r ≡ valid g bs (words_of bs)) where
    pub says_unsigned : not r ≡ true → false ≡ Says
    unfolding says_piece decoded
    says_unsigned e =
        ap (λ (m : Option MapSector). says_piece m p number entries)
        (sym (cond_false (valid g bs (words_of bs)) (some (fields (words_of bs))) none (sym h ∙ not_of r e)))

    module _ (e : not r ≡ false) where
      said : Says ≡ (Piece && Number && Same)
      unfolding says_piece decoded
      said =
          ap (λ (m : Option MapSector). says_piece m p number entries)
          (cond_true (valid g bs (words_of bs)) (some (fields (words_of bs))) none (sym h ∙ not_false r e))

      module _ (k : ℕ) (is : k ≡ at (words_of bs) 4) where
        pub says_other_piece : (k ≡ p → ⊥) → false ≡ Says
        says_other_piece d =
            first_fails Piece Number Same (ne_eqb (at (words_of bs) 4) p (subst (λ (x : ℕ). x ≡ p → ⊥) is d)) ∙ sym said

        module _ (f : k ≡ p) (j : ℕ) (is₂ : j ≡ at (words_of bs) 2) where
          pub says_other_number : (j ≡ number → ⊥) → false ≡ Says
          says_other_number d =
              second_fails Piece Number Same (eq-eqb (at (words_of bs) 4) p (sym is ∙ f))
              (ne_eqb (at (words_of bs) 2) number (subst (λ (x : ℕ). x ≡ number → ⊥) is₂ d))
              ∙ sym said

          pub says_entries : j ≡ number → (u : Bool) → u ≡ Same → u ≡ Says
          says_entries w u v =
              v
              ∙ third_decides Piece Number Same (eq-eqb (at (words_of bs) 4) p (sym is ∙ f)) (eq-eqb (at (words_of bs) 2) number (sym is₂ ∙ w))
              ∙ sym said

-- The live sectors of the pieces below p say what the tables say.
module _ (g : Geometry) (image map places numbers : List ℕ) where
  abbrev Live : ℕ → Bool
  Live p = says_piece (decoded g (sector_at image (at places p))) p (at numbers p) (piece_entries g.l (at map) p)

  abbrev Valid : Bool
  Valid = live_valid g.l (tables_of map places numbers []) (view_of g (sector_at image))

  pub Lives : ℕ → Type 0
  Lives p = all_below Live p ≡ true

  pub live_none : Lives 0
  unfolding Lives
  live_none = all_below_none Live

  module _ (p : ℕ) (s : List ℕ) (e : s ≡ sector_at image (at places p)) (r : Bool)
      (h : r ≡ says_piece (decoded g s) p (at numbers p) (piece_entries g.l (at map) p)) where
    live_is : r ≡ Live p
    live_is = h ∙ ap (λ (bs : List ℕ). says_piece (decoded g bs) p (at numbers p) (piece_entries g.l (at map) p)) e

    pub live_more : Lives p → not r ≡ false → Lives (p + 1)
    unfolding Lives
    live_more a f = all_below_more Live p a (sym live_is ∙ not_false r f)

    pub live_fails : p < pieces_for g.l → not r ≡ true → false ≡ Valid
    unfolding live_valid
    live_fails b f = all_below_not Live (pieces_for g.l) p b (sym live_is ∙ not_of r f)

  pub live_all : (p : ℕ) → p ≡ pieces_for g.l → Lives p → true ≡ Valid
  unfolding live_valid Lives
  live_all p e a = sym (subst (λ (x : ℕ). all_below Live x ≡ true) e a)

-- Refusals 1 and 2 passed: the lengths.
module _ (s : State) (image map places numbers used : List ℕ) where
  abbrev Lent : Memory
  Lent = memory image map places numbers used

  module _ (h : state_fits s Lent ≡ true) where
    pub image_long : length image ≡ sector_bytes * s.geometry.n
    unfolding state_fits memory
    image_long =
        eqb-true (length image) (sector_bytes * s.geometry.n) (and_l (eqb (length image) (sector_bytes * s.geometry.n)) (geometry_fits s.geometry) h)

    pub geometry_fits_lem : geometry_fits s.geometry ≡ true
    unfolding state_fits memory
    geometry_fits_lem = and_r (eqb (length image) (sector_bytes * s.geometry.n)) (geometry_fits s.geometry) h

  module _ (h : tables_fit Lent s.geometry ≡ true) where
    abbrev M : Bool
    M = eqb (length map) s.geometry.l

    abbrev P : Bool
    P = eqb (length places) (pieces_for s.geometry.l)

    abbrev N : Bool
    N = eqb (length numbers) (pieces_for s.geometry.l)

    abbrev U : Bool
    U = eqb (length used) (used_bytes s.geometry.n)

    whole : (M && P && N && U) ≡ true
    unfolding tables_fit memory
    whole = h

    pub map_long : length map ≡ s.geometry.l
    map_long = eqb-true (length map) s.geometry.l (and_l M P (and_l (M && P) N (and_l (M && P && N) U whole)))

    pub places_long : length places ≡ pieces_for s.geometry.l
    places_long = eqb-true (length places) (pieces_for s.geometry.l) (and_r M P (and_l (M && P) N (and_l (M && P && N) U whole)))

    pub numbers_long : length numbers ≡ pieces_for s.geometry.l
    numbers_long = eqb-true (length numbers) (pieces_for s.geometry.l) (and_r (M && P) N (and_l (M && P && N) U whole))

    pub used_long : length used ≡ used_bytes s.geometry.n
    used_long = eqb-true (length used) (used_bytes s.geometry.n) (and_r (M && P && N) U whole)

  abbrev Sane : Bool
  Sane = consistent s.geometry (tables_of map places numbers used) s.tail s.number

  module _ (r : Bool) (h : r ≡ Sane) where
    pub tables_unsound : not r ≡ true → false ≡ tables_agree s Lent
    unfolding tables_agree memory
    tables_unsound e =
        ap (λ (b : Bool). b && live_valid s.geometry.l (tables_of map places numbers used) (view_of s.geometry (sector_at image)))
        (sym (sym h ∙ not_of r e))

    module _ (e : not r ≡ false) where
      pub places_below : 1 ≤ s.geometry.n → (q : ℕ) → q < pieces_for s.geometry.l → at places q < s.geometry.n
      places_below least q b =
          let high = (sound s.geometry (tables_of map places numbers used) s.tail s.number (sym h ∙ not_false r e)).high (piece q) b in
          omega arith

      pub live_decides : (u : Bool) → u ≡ live_valid s.geometry.l (tables_of map places numbers []) (view_of s.geometry (sector_at image))
          → u ≡ tables_agree s Lent
      unfolding tables_agree memory live_valid
      live_decides u v =
          v
          ∙ ap (λ (b : Bool). b && live_valid s.geometry.l (tables_of map places numbers used) (view_of s.geometry (sector_at image)))
          (sym (sym h ∙ not_false r e))
