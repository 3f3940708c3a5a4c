-- The scan's tables: found by what was read of the signed sectors, and as the definition finds them.
use Prim.Native.Nat.{ℕ, ◌≤◌, ◌<◌}
use mathlib.Core.Path.{◌≡◌, refl, sym, ◌∙◌, ap, subst}
use mathlib.Core.Logic.{⊎_elim}
use mathlib.Core.Bool.{Bool, true, false, cond, not, ◌||◌, true≢false}
use mathlib.Core.List.{List, []}
use mathlib.Core.Option.{some}
use native.Mathlib.Omega.{arith}
use lib.ListN.{length}
use lib.Dec.{ltb}
use borrow.Author.Tests.{eq-eqb, ne_eqb, eqb-true, lt-ltb, ltb-true, not-true, not-false}
use Rattle.geometry.specs.declared.Geometry.{Geometry}
use Rattle.geometry.specs.Geometry.{pieces_for, piece_of, index_of}
use Rattle.answer.specs.declared.Answer.TheVariants.{Scanned}
use Rattle.answer.specs.declared.Loss.TheVariants.{NoLog, DamagedLog}
use Rattle.layout.specs.Bounded.{at, any_below, all, distinct, is_zero, list_from, tabled}
use Rattle.layout.specs.Word.{words_of}
use Rattle.layout.specs.MapSector.{View, entry_words, fields}
use Rattle.volume.specs.Tables.{Tables, tables_of, named_by, used_by, bit_at, consistent}
use Rattle.volume.specs.Recover.{number_in, piece_in, entry_in, piece_number, tables_from, image_view, newest_closing, scan_place, signed_numbers, is_uncommitted, is_consistent, scanned_log, scan_damaged, scan_stores, scan_finding, closed_up_to, Finding, found, missing}
use Rattle.laws.proofs.Bounded.{bool?, clash, any_below_at, any_below_is, all_at, gathered_all, list_from_same, best_below, cond_true, cond_false}
use Rattle.laws.proofs.Names.{sound}
use Rattle.signed.specs.Signed.{below, signed_sectors, signed_pieces, Listed}
use Rattle.log_tables.specs.LogTables.{tables_named, live_places, live_numbers, map_from}
use Rattle.scan.specs.Scanned.{scan_found, ScanAbove}
use Rattle.std.specs.Prelude.{Result, Ok, Err}
use Rattle.answer.specs.declared.Loss.{Loss}
use Rattle.state.specs.declared.tail.Tail.{Tail}
use Rattle.signed.proofs.Newest.{listed}
use Rattle.signed.proofs.ViewLaws.{above_view, piece_inside, piece_signed, piece_number_lem}

-- Tables with the same words, places and numbers are the same.
pub tables_same : (l : ℕ) (entry entry' place place' number number' : ℕ → ℕ) → entry ≡ entry' → place ≡ place' → number ≡ number'
    → ◌≡◌ {A = Tables} (record { entry = entry; place = place; number = number; is_used = used_by (named_by l entry place) })
    (record { entry = entry'; place = place'; number = number'; is_used = used_by (named_by l entry' place') })
tables_same l entry entry' place place' number number' e f g = rw (e, f, g) refl

-- Tables made of live sectors that are all signed.
module _ (g : Geometry) (image : ℕ → List ℕ) (live : ℕ → ℕ) (places numbers : List ℕ) (are : places ≡ list_from live 0 (pieces_for g.l))
    (numbered : (p : ℕ) → p < pieces_for g.l → at numbers p ≡ number_in (image_view g image (live p)))
    (long : numbers ≡ list_from (at numbers) 0 (pieces_for g.l))
    (signed : (p : ℕ) → p < pieces_for g.l → image_view g image (live p) ≡ some (fields (words_of (image (live p))))) where
  place_is : at places ≡ tabled 0 (pieces_for g.l) live
  unfolding tabled
  place_is = ap (λ (xs : List ℕ). at xs) are

  at_place : (p : ℕ) → p < pieces_for g.l → tabled 0 (pieces_for g.l) live p ≡ live p
  unfolding tabled
  at_place p h = listed live (pieces_for g.l) p h

  number_is : at numbers ≡ tabled 0 (pieces_for g.l) (λ p. number_in (image_view g image (tabled 0 (pieces_for g.l) live p)))
  unfolding tabled
  number_is =
      ap (λ (xs : List ℕ). at xs)
      (long ∙ list_from_same (at numbers) (λ p. number_in (image_view g image (tabled 0 (pieces_for g.l) live p))) 0 (pieces_for g.l)
      (λ k a b. numbered k (omega arith) ∙ ap (λ (x : ℕ). number_in (image_view g image x)) (sym (at_place k (omega arith)))))

  entry_is_lem : at (map_from image places g.l) ≡ tabled 0 g.l (λ b. entry_in (index_of b) (image_view g image (tabled 0 (pieces_for g.l) live (piece_of b))))
  unfolding tabled map_from entry_in
  entry_is_lem =
      ap (λ (xs : List ℕ). at xs)
      (list_from_same (λ b. at (entry_words (words_of (image (at places (piece_of b))))) (index_of b))
      (λ b. entry_in (index_of b) (image_view g image (tabled 0 (pieces_for g.l) live (piece_of b)))) 0 g.l
      (λ k a b.
      let h : piece_of k < pieces_for g.l = omega arith in
      let e : tabled 0 (pieces_for g.l) live (piece_of k) ≡ live (piece_of k) = at_place (piece_of k) h in
      ap (λ (x : ℕ). at (entry_words (words_of (image x))) (index_of k)) (ap (λ (f : ℕ → ℕ). f (piece_of k)) place_is ∙ e)
      ∙ sym (ap (λ (x : ℕ). entry_in (index_of k) (image_view g image x)) e ∙ ap (entry_in (index_of k)) (signed (piece_of k) h))))

  pub live_tables : tables_named g.l (map_from image places g.l) places numbers ≡ tables_from g.l (image_view g image) live
  unfolding tables_from
  live_tables =
      tables_same g.l (at (map_from image places g.l)) (tabled 0 g.l (λ b. entry_in (index_of b) (image_view g image (tabled 0 (pieces_for g.l) live (piece_of b)))))
      (at places) (tabled 0 (pieces_for g.l) live) (at numbers) (tabled 0 (pieces_for g.l) (λ p. number_in (image_view g image (tabled 0 (pieces_for g.l) live p))))
      entry_is_lem place_is number_is

-- The used map in place of the definition's.
pub used_same : (l : ℕ) (map places numbers used : List ℕ) → bit_at used ≡ used_by (named_by l (at map) (at places))
    → tables_of map places numbers used ≡ tables_named l map places numbers
used_same l map places numbers used e = rw e refl

-- Three tests, the first and last negated.
module _ (d a c : Bool) where
  pub not_distinct : d ≡ false → false ≡ not (not d || a || not c)
  not_distinct e = rw e refl

  pub piece_lost : d ≡ true → a ≡ true → false ≡ not (not d || a || not c)
  piece_lost e f = rw (e, f) refl

  pub last_decides : d ≡ true → a ≡ false → c ≡ not (not d || a || not c)
  last_decides e f = rw (e, f) (twice c)
    where
      twice : (b : Bool) → b ≡ not (not b)
      twice true = refl
      twice false = refl

module _ (g : Geometry) (image : ℕ → List ℕ) (c : ℕ) where
  abbrev view : View
  view = image_view g image

  abbrev live : ℕ → ℕ
  live p = scan_place g.n view c p

  -- A piece has no sector.
  Lost : Bool
  Lost = any_below (λ p. is_zero (piece_number c p (view (live p)))) (pieces_for g.l)

  module _ (map places numbers : List ℕ) (p : places ≡ live_places view c g.n (pieces_for g.l)) (q : numbers ≡ live_numbers view c g.n (pieces_for g.l))
      (m : map ≡ map_from image places g.l) where
    places_are : places ≡ list_from live 0 (pieces_for g.l)
    unfolding live_places
    places_are = p

    numbers_are : numbers ≡ list_from (λ p. piece_number c p (view (live p))) 0 (pieces_for g.l)
    unfolding live_numbers
    numbers_are = q

    at_number : (k : ℕ) → k < pieces_for g.l → at numbers k ≡ piece_number c k (view (live k))
    at_number k h = ap (λ (xs : List ℕ). at xs k) numbers_are ∙ listed (λ p. piece_number c p (view (live p))) (pieces_for g.l) k h

    abbrev Tabled : Tables
    Tabled = tables_named g.l map places numbers

    -- Live numbers are from 1, so tables with a piece lost are not sound.
    lost_fails : (tail : ℕ) → Lost ≡ true → consistent g Tabled tail c ≡ false
    unfolding Lost
    lost_fails tail e =
        let s = any_below_at (λ p. is_zero (piece_number c p (view (live p)))) (pieces_for g.l) e in
        ⊎_elim (λ (z : consistent g Tabled tail c ≡ true).
        let one : 1 ≤ at numbers s.0 = (sound g Tabled tail c z).from1 s.0 s.1 in
        let none : at numbers s.0 ≡ 0 = at_number s.0 s.1 ∙ eqb-true (piece_number c s.0 (view (live s.0))) 0 s.2 in
        absurd (omega arith))
        (λ (z : consistent g Tabled tail c ≡ false). z) (bool? (consistent g Tabled tail c))

    whole : Lost ≡ false → (k : ℕ) → k < pieces_for g.l → piece_number c k (view (live k)) ≡ 0 → ⊥
    unfolding Lost
    whole e k h z =
        true≢false (sym (any_below_is (λ p. is_zero (piece_number c p (view (live p)))) (pieces_for g.l) k h (eq-eqb (piece_number c k (view (live k))) 0 z)) ∙ e)

    whole_tables : Lost ≡ false → Tabled ≡ (scanned_log g view c).tables
    unfolding scanned_log
    whole_tables e =
        ap (λ (xs : List ℕ). tables_named g.l xs places numbers) m
        ∙ live_tables g image live places numbers places_are
        (λ k h. at_number k h ∙ piece_number_lem c k (view (live k)) (whole e k h))
        (numbers_are ∙ list_from_same (λ p. piece_number c p (view (live p))) (at numbers) 0 (pieces_for g.l) (λ k a b. sym (at_number k (omega arith))))
        (λ k h. piece_signed g image c k (live k) (whole e k h))

    module _ (d : Bool) (same : d ≡ distinct (signed_numbers view g.n)) (tail : ℕ)
        (newest : tail ≡ newest_closing g.n view) where
      abbrev Damaged : Bool
      Damaged = scan_damaged g view c (scanned_log g view c)

      module _ (used : List ℕ) (r : Bool) (e : not d ≡ false) (f : r ≡ consistent g Tabled tail c)
          (u : r ≡ true → bit_at used ≡ used_by (named_by g.l (at map) (at places))) where
        sure : distinct (signed_numbers view g.n) ≡ true
        sure = sym same ∙ not-false d e

        answer : r ≡ not Damaged
        unfolding scan_damaged Lost scanned_log
        answer =
            ⊎_elim (λ (z : Lost ≡ true).
            f ∙ lost_fails tail z ∙ piece_lost (distinct (signed_numbers view g.n)) Lost (consistent g (scanned_log g view c).tables (newest_closing g.n view) c) sure z)
            (λ (z : Lost ≡ false).
            f ∙ ap (λ (t : Tables). consistent g t tail c) (whole_tables z)
            ∙ ap (λ (x : ℕ). consistent g (scanned_log g view c).tables x c) newest
            ∙ last_decides (distinct (signed_numbers view g.n)) Lost (consistent g (scanned_log g view c).tables (newest_closing g.n view) c) sure z) (bool? Lost)

        pub tables_decide : (r ≡ not Damaged) × (r ≡ true → tables_of map places numbers used ≡ (scanned_log g view c).tables)
        tables_decide = (
          answer,
          λ (z : r ≡ true).
              used_same g.l map places numbers used (u z)
              ∙ ⊎_elim (λ (y : Lost ≡ true). clash r z (f ∙ lost_fails tail y)) whole_tables (bool? Lost),
        )

  pub distinct_fails : (d : Bool) → d ≡ distinct (signed_numbers view g.n) → not d ≡ true → (t : Tables)
      → (false ≡ not (scan_damaged g view c (scanned_log g view c))) × (false ≡ true → t ≡ (scanned_log g view c).tables)
  unfolding scan_damaged
  distinct_fails d e f t = (
    not_distinct (distinct (signed_numbers view g.n)) (any_below (λ p. is_zero (piece_number c p (view (scan_place g.n view c p)))) (pieces_for g.l))
        (is_consistent g (scanned_log g view c)) (sym e ∙ not-true d f),
    λ z. absurd (true≢false (sym z)),
  )

  pub place_inside : (p : ℕ) (places : List ℕ) → 0 < g.n → places ≡ live_places view c g.n (pieces_for g.l) → p < pieces_for g.l → at places p < g.n
  unfolding live_places scan_place
  place_inside p places pos e h =
      subst (λ (x : ℕ). x < g.n) (sym (ap (λ (xs : List ℕ). at xs p) e ∙ listed live (pieces_for g.l) p h))
      (best_below (λ k. piece_number c p (view k)) g.n pos)

  -- Of what is listed, each piece is one of the pieces, and each sector lies in the image.
  module _ (sectors numbered pieces : List ℕ) (l : Listed view g.n sectors numbered pieces) where
    pub pieces_inside : (i : ℕ) → i < length pieces → at pieces i < pieces_for g.l
    unfolding signed_pieces all
    pieces_inside i h =
        ltb-true (at pieces i) (pieces_for g.l)
        (all_at (λ x. ltb x (pieces_for g.l)) pieces i
        (ap (all (λ x. ltb x (pieces_for g.l))) l.piece
        ∙ gathered_all (λ k. not (is_zero (number_in (view k)))) (λ k. piece_in (view k)) [] (λ x. ltb x (pieces_for g.l)) g.n refl
        (λ k a e. lt-ltb (piece_in (view k)) (pieces_for g.l) (piece_inside g image k (λ (z : number_in (view k) ≡ 0). clash (is_zero (number_in (view k))) (ap is_zero z) (not-true (is_zero (number_in (view k))) e)))))
        h)

    pub sectors_inside : (i : ℕ) → i < length sectors → at sectors i < g.n
    unfolding signed_sectors all
    sectors_inside i h =
        ltb-true (at sectors i) g.n
        (all_at (λ x. ltb x g.n) sectors i
        (ap (all (λ x. ltb x g.n)) l.sector
        ∙ gathered_all (λ k. not (is_zero (number_in (view k)))) (λ k. k) [] (λ x. ltb x g.n) g.n refl (λ k a e. lt-ltb k g.n a))
        h)

pub is_map : (image : ℕ → List ℕ) (places map : List ℕ) (m l : ℕ) → m ≡ l
    → map ≡ list_from (λ b. at (entry_words (words_of (image (at places (piece_of b))))) (index_of b)) 0 m → map ≡ map_from image places l
unfolding map_from
is_map image places map m l e f = f ∙ ap (list_from (λ b. at (entry_words (words_of (image (at places (piece_of b))))) (index_of b)) 0) e

-- What the scan answers.
module _ (g : Geometry) (image : ℕ → List ℕ) (tail c : ℕ) (newest : tail ≡ newest_closing g.n (image_view g image)) (number : c ≡ closed_up_to g.n (image_view g image)) where
  abbrev seen : View
  seen = image_view g image

  abbrev Whole : ℕ → Finding
  Whole c = found (scanned_log g seen c) (Scanned g.n) (scan_stores g.n seen (image 0) c)

  abbrev Judged : ℕ → Finding
  Judged c = cond (is_zero c) (missing NoLog) (cond (scan_damaged g seen c (scanned_log g seen c)) (missing DamagedLog) (Whole c))

  finding_is : scan_finding g seen (image 0) ≡ Judged c
  unfolding scan_finding
  finding_is = ap Judged (sym number)

  abbrev pub Answered : Result Tail Loss → Tables → (ℕ → Bool) → Type 0
  Answered r t above = (scan_found r g.n seen (image 0) t ≡ scan_finding g seen (image 0)) × ScanAbove r seen above

  pub scan_none : c ≡ 0 → (t : Tables) (above : ℕ → Bool) → Answered (Err NoLog) t above
  unfolding scan_found ScanAbove
  scan_none z t above = (
    sym (finding_is ∙ cond_true (is_zero c) (missing NoLog) (cond (scan_damaged g seen c (scanned_log g seen c)) (missing DamagedLog) (Whole c)) (eq-eqb c 0 z)),
    refl,
  )

  module _ (d : c ≡ 0 → ⊥) (r : Bool) (t : Tables)
      (e : (r ≡ not (scan_damaged g seen c (scanned_log g seen c))) × (r ≡ true → t ≡ (scanned_log g seen c).tables)) where
    judged_is : scan_finding g seen (image 0) ≡ cond (scan_damaged g seen c (scanned_log g seen c)) (missing DamagedLog) (Whole c)
    judged_is =
        finding_is ∙ cond_false (is_zero c) (missing NoLog) (cond (scan_damaged g seen c (scanned_log g seen c)) (missing DamagedLog) (Whole c)) (ne_eqb c 0 d)

    pub scan_damaged_lem : not r ≡ true → (above : ℕ → Bool) → Answered (Err DamagedLog) t above
    unfolding scan_found ScanAbove
    scan_damaged_lem f above = (
      sym (judged_is ∙ cond_true (scan_damaged g seen c (scanned_log g seen c)) (missing DamagedLog) (Whole c)
          (not-false (scan_damaged g seen c (scanned_log g seen c)) (sym e.0 ∙ not-true r f))),
      refl,
    )

    pub scan_finds : not r ≡ false → (above : ℕ → Bool) → above ≡ below (is_uncommitted seen c) g.n → Answered (Ok (record { sector = tail; number = c })) t above
    unfolding scan_found ScanAbove scanned_log
    scan_finds f above u = (
      ap (λ (x : Tables). found (record { tables = x; tail = tail; number = c }) (Scanned g.n) (scan_stores g.n seen (image 0) c)) (e.1 (not-false r f))
          ∙ ap (λ (k : ℕ). found (record { tables = (scanned_log g seen c).tables; tail = k; number = c }) (Scanned g.n) (scan_stores g.n seen (image 0) c)) newest
          ∙ sym (judged_is ∙ cond_false (scan_damaged g seen c (scanned_log g seen c)) (missing DamagedLog) (Whole c)
          (not-true (scan_damaged g seen c (scanned_log g seen c)) (sym e.0 ∙ not-false r f))),
      u ∙ above_view g image c,
    )
