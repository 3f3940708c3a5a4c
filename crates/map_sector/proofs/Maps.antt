-- Map sectors: the test of one, part by part.
use Prim.Native.Nat.{ℕ, zero, suc, ◌+◌, ◌*◌, ◌-◌, ◌≤◌, ◌<◌}
use mathlib.Core.Bool.{Bool, true, false, not, ◌&&◌}
use mathlib.Core.Path.{◌≡◌, refl, sym, ap, ◌∙◌}
use mathlib.Core.List.{List, [], ◌∷◌}
use native.Mathlib.Omega.{arith}
use native.Mathlib.Nat.{zero-add, suc-add}
use lib.ListN.{length, take, drop, drop_of_length-le, length-drop}
use lib.Seq.{slice, take_all, take-nil, drop-drop, get_or-take, get_or-drop}
use lib.Dec.{eqb, leb, ltb}
use borrow.Author.Tests.{ltb-true, leb-true, not-true, not-false}
use Rattle.geometry.specs.declared.Geometry.{Geometry}
use Rattle.geometry.specs.Geometry.{pieces_for, entries_per_piece, branch_room}
use Rattle.layout.specs.Bounded.{at, all, is_zero}
use Rattle.layout.specs.Word.{word_sum, starts_with}
use Rattle.layout.specs.MapSector.{map_mark, branch_words, entry_words, branches_fit, valid}
use Rattle.map_sector.specs.Header.{fields_fit, header_fits}

-- Both of two tests passed.
pub and_left : (a b : Bool) → (a && b) ≡ true → a ≡ true
and_left true b h = refl
and_left false b h = h

pub and_right : (a b : Bool) → (a && b) ≡ true → b ≡ true
and_right true b h = h
and_right false b h = let z : ◌≡◌ {A = ℕ} 0 1 = cc in absurd (omega arith)

drop_take : (m n : ℕ) (l : List ℕ) → drop m (take (m + n) l) ≡ take n (drop m l)
drop_take zero n l = rw zero-add
drop_take (suc m) n [] = rw (suc-add, take-nil)
drop_take (suc m) n (x ∷ l) = rw suc-add (drop_take m n l)

module _ (ws : List ℕ) (i : ℕ) where
  pub branch_word : i < 24 → at (branch_words ws) i ≡ at ws (8 + i)
  branch_word h = get_or-take 24 (drop 8 ws) i 0 h ∙ get_or-drop 8 ws i 0

  pub entry_word : at (entry_words ws) i ≡ at ws (32 + i)
  entry_word = get_or-drop 32 ws i 0

pub header_words : (l : ℕ) (ws : List ℕ) (fit : Bool) (a b c d e f : ℕ) → fit ≡ fields_fit l a b c d e f
    → a ≡ at ws 2 → b ≡ at ws 3 → c ≡ at ws 4 → d ≡ at ws 5 → e ≡ at ws 6 → f ≡ at ws 7 → fit ≡ header_fits l ws
unfolding header_fits
header_words l ws fit a b c d e f o p q r s t u = cc

-- The third and the fifth of six tests.
third_fifth : (a b c d e f : Bool) → (a && b && c && d && e && f) ≡ true → (c ≡ true) × (e ≡ true)
third_fifth a b c d e f h =
    let five = and_left (a && b && c && d && e) f h in
    (and_right (a && b) c (and_left (a && b && c) d (and_left (a && b && c && d) e five)), and_right (a && b && c && d) e five)

module _ (l : ℕ) (ws : List ℕ) (h : header_fits l ws ≡ true) where
  passed : (ltb (at ws 4) (pieces_for l) ≡ true) × (leb (at ws 6) branch_room ≡ true)
  unfolding header_fits fields_fit
  passed =
      third_fifth (leb 1 (at ws 2)) (is_zero (at ws 3)) (ltb (at ws 4) (pieces_for l)) (leb (at ws 5) 1) (leb (at ws 6) branch_room) (eqb (at ws 7) l) h

  pub header_piece : at ws 4 < pieces_for l
  header_piece = ltb-true (at ws 4) (pieces_for l) passed.0

  pub header_count : at ws 6 ≤ branch_room
  header_count = leb-true (at ws 6) branch_room passed.1

module _ (d : ℕ) (ws : List ℕ) (long : length ws ≡ 128) where
  pub entries_all : 96 ≤ d → all is_zero (drop d (entry_words ws)) ≡ true
  unfolding all
  entries_all h =
      let past : length (drop 32 ws) ≤ d = simp length-drop (omega arith) in
      rw (drop_of_length-le (drop 32 ws) past)

  pub entries_past : all is_zero (drop d (entry_words ws)) ≡ all is_zero (slice (32 + d) 128 ws)
  entries_past = ap (all is_zero) (drop-drop d 32 ws ∙ ap (drop (32 + d)) (sym (take_all 128 ws (omega arith))))

-- The test of a whole sector, in the code's order: the sum comes last.
module _ (g : Geometry) (bs ws : List ℕ) where
  abbrev whole : Bool
  whole =
      starts_with map_mark bs && header_fits g.l ws && branches_fit g.n (at ws 6) (branch_words ws)
      && all is_zero (drop (g.l - entries_per_piece * at ws 4) (entry_words ws))
      && is_zero (word_sum ws)

  sum_last : (m z a b c d e f r t : Bool) → (m && z && a && b && c && d && e && f && r && t) ≡ (m && (a && b && c && d && e && f) && r && t && z)
  sum_last false z a b c d e f r t = refl
  sum_last true true a b c d e f r t = ends (a && b && c && d && e && f && r && t)
    where
      ends : (x : Bool) → x ≡ (x && true)
      ends true = refl
      ends false = refl
  sum_last true false a b c d e f r t = never ((a && b && c && d && e && f) && r && t)
    where
      never : (x : Bool) → false ≡ (x && false)
      never true = refl
      never false = refl

  valid_parts : whole ≡ valid g bs ws
  unfolding valid header_fits fields_fit
  valid_parts =
      sym (sum_last (starts_with map_mark bs) (is_zero (word_sum ws)) (leb 1 (at ws 2)) (is_zero (at ws 3)) (ltb (at ws 4) (pieces_for g.l)) (leb (at ws 5) 1)
      (leb (at ws 6) branch_room) (eqb (at ws 7) g.l) (branches_fit g.n (at ws 6) (branch_words ws))
      (all is_zero (drop (g.l - entries_per_piece * at ws 4) (entry_words ws))))

  module _ (b1 : Bool) (f1 : b1 ≡ starts_with map_mark bs) where
    pub valid_unmarked : not b1 ≡ true → false ≡ valid g bs ws
    valid_unmarked e = rw (sym f1 ∙ not-true b1 e) refl ∙ valid_parts

    module _ (e1 : not b1 ≡ false) (b2 : Bool) (f2 : b2 ≡ header_fits g.l ws) where
      pub valid_header : not b2 ≡ true → false ≡ valid g bs ws
      valid_header e = rw (sym f1 ∙ not-false b1 e1, sym f2 ∙ not-true b2 e) refl ∙ valid_parts

      module _ (e2 : not b2 ≡ false) where
        pub piece_below : at ws 4 < pieces_for g.l
        piece_below = header_piece g.l ws (sym f2 ∙ not-false b2 e2)

        pub few_branches : at ws 6 ≤ branch_room
        few_branches = header_count g.l ws (sym f2 ∙ not-false b2 e2)

        module _ (b3 : Bool) (f3 : b3 ≡ branches_fit g.n (at ws 6) (branch_words ws)) where
          pub valid_branches : not b3 ≡ true → false ≡ valid g bs ws
          valid_branches e = rw (sym f1 ∙ not-false b1 e1, sym f2 ∙ not-false b2 e2, sym f3 ∙ not-true b3 e) refl ∙ valid_parts

          module _ (e3 : not b3 ≡ false) (b4 : Bool) (f4 : b4 ≡ all is_zero (drop (g.l - entries_per_piece * at ws 4) (entry_words ws))) where
            pub valid_entries : not b4 ≡ true → false ≡ valid g bs ws
            valid_entries e = rw (sym f1 ∙ not-false b1 e1, sym f2 ∙ not-false b2 e2, sym f3 ∙ not-false b3 e3, sym f4 ∙ not-true b4 e) refl ∙ valid_parts

            pub valid_sum : not b4 ≡ false → (sum : ℕ) → sum ≡ word_sum ws → eqb sum 0 ≡ valid g bs ws
            valid_sum e4 sum k =
                let zero? : eqb sum 0 ≡ whole =
                rw (k, sym f1 ∙ not-false b1 e1, sym f2 ∙ not-false b2 e2, sym f3 ∙ not-false b3 e3, sym f4 ∙ not-false b4 e4) refl in
                zero? ∙ valid_parts
