-- A scan of what any cut leaves finds the last closed commit: of a committed image it finds exactly its tables, tail and number.
use Prim.Native.Nat.{ℕ, ◌+◌, ◌*◌, ◌/◌, ◌%◌, ◌≤◌, ◌<◌}
use mathlib.Core.Path.{◌≡◌, refl, sym, ◌∙◌, ap, ap₂, subst, fun_ext}
use mathlib.Core.Logic.{◌⊎◌, inl, inr, ⊎_elim}
use mathlib.Core.Bool.{true, false, cond, not, ◌&&◌}
use mathlib.Core.List.{List, []}
use mathlib.Core.Option.{Option, none, some}
use native.Mathlib.Nat.{div-add-mod}
use native.Mathlib.Omega.{arith}
use lib.Dec.{leb, eqb}
use borrow.Author.Tests.{le-leb, lt-leb, leb-true, eq-eqb, ne_eqb, eqb-true, eqb-false}
use Rattle.geometry.specs.declared.Geometry.{Geometry}
use Rattle.answer.specs.declared.Answer.TheVariants.{Scanned}
use Rattle.geometry.specs.Geometry.{pieces_for, piece_of, index_of}
use Rattle.layout.specs.Bounded.{at, best, distinct, elem, tabled, is_zero, any_below}
use Rattle.layout.specs.MapSector.{MapSector}
use Rattle.volume.specs.Tables.{Tables, named_by, used_by, piece_entries}
use Rattle.volume.specs.Recover.{number_in, entry_in, closing_number, piece_number, tables_from, found, newest_closing, closed_up_to, scan_place, signed_numbers, scanned_log, scan_damaged, scan_stores, scan_finding, image_view}
use Rattle.history.specs.History.{Disk}
use Rattle.laws.proofs.Bounded.{bool?, lt?, eq?, clash, and_l, and_r, not_of, cond_true, cond_false, best_unique, best_below, tabled_at, tabled_past, list_from_at, gathered_distinct, any_below_none}
use Rattle.laws.proofs.Names.{sound_consistent}
use Rattle.laws.proofs.Sizes.{Fits, some_pieces, view_below}
use Rattle.agreement.proofs.Agreed.{number_most}
use Rattle.history.proofs.Invariant.{Ground, Committed}

pub option? : {A : Type 0} (o : Option A) → (o ≡ none) ⊎ ((a : A) × (o ≡ some a))
option? none = inl refl
option? (some a) = inr (a, refl)

pub number_some : (o : Option MapSector) (a : MapSector) → o ≡ some a → number_in o ≡ a.number
unfolding number_in
number_some o a e = ap number_in e

number_none : (o : Option MapSector) → o ≡ none → number_in o ≡ 0
unfolding number_in
number_none o e = ap number_in e

-- A number that is not 0 is that of a signed sector.
pub number_signed : (o : Option MapSector) → (number_in o ≡ 0 → ⊥) → (a : MapSector) × (o ≡ some a)
number_signed o f = ⊎_elim (λ e. absurd (f (number_none o e))) (λ w. w) (option? o)

closing_is : (o : Option MapSector) (a : MapSector) → o ≡ some a → a.closing ≡ true → closing_number o ≡ a.number
unfolding closing_number
closing_is o a e c = ap closing_number e ∙ cond_true a.closing a.number 0 c

-- The key of a closing sector is below any bound that its number is below.
closing_below : (o : Option MapSector) (bound : ℕ) → 1 ≤ bound → ((a : MapSector) → o ≡ some a → a.closing ≡ true → a.number < bound)
    → closing_number o < bound
unfolding closing_number
closing_below o bound h f =
    ⊎_elim (λ (e : o ≡ none). rw e h)
    (λ w.
    ⊎_elim (λ (c : w.0.closing ≡ true). rw (w.1, c) (f w.0 w.1 c)) (λ (c : w.0.closing ≡ false). rw (w.1, c) h)
    (bool? w.0.closing))
    (option? o)

piece_is : (c p : ℕ) (o : Option MapSector) (a : MapSector) → o ≡ some a → a.piece ≡ p → a.number ≤ c → piece_number c p o ≡ a.number
unfolding piece_number
piece_is c p o a e q h =
    ap (piece_number c p) e
    ∙ cond_true (eqb a.piece p && leb a.number c) a.number 0 (rw (eq-eqb a.piece p q) (le-leb a.number c h))

piece_below : (c p : ℕ) (o : Option MapSector) (bound : ℕ) → 1 ≤ bound
    → ((a : MapSector) → o ≡ some a → a.piece ≡ p → a.number ≤ c → a.number < bound) → piece_number c p o < bound
unfolding piece_number
piece_below c p o bound h f =
    ⊎_elim (λ (e : o ≡ none). rw e h)
    (λ w.
    ⊎_elim (λ (b : (eqb w.0.piece p && leb w.0.number c) ≡ true).
    rw (w.1, b)
    (f w.0 w.1 (eqb-true w.0.piece p (and_l (eqb w.0.piece p) (leb w.0.number c) b))
    (leb-true w.0.number c (and_r (eqb w.0.piece p) (leb w.0.number c) b))))
    (λ (b : (eqb w.0.piece p && leb w.0.number c) ≡ false). rw (w.1, b) h)
    (bool? (eqb w.0.piece p && leb w.0.number c)))
    (option? o)

-- An entry stands in its piece where its block says.
pub piece_entry : (l : ℕ) (entry : ℕ → ℕ) (b : ℕ) → b < l → at (piece_entries l entry (piece_of b)) (index_of b) ≡ entry b
unfolding piece_entries
piece_entry l entry b h =
    let e : 96 * (b / 96) + b % 96 ≡ b = div-add-mod b 96 in
    list_from_at (λ k. cond (leb l k) 0 (entry k)) (96 * (b / 96)) 96 (b % 96) 0 (omega arith)
    ∙ ap (λ (k : ℕ). cond (leb l k) 0 (entry k)) e
    ∙ cond_false (leb l b) 0 (entry b) (lt-leb l b h)

module _ (g : Geometry) (image : ℕ → List ℕ) (t : Tables) (tail number : ℕ) (disk : Disk) (fit : Fits g)
    (c : Committed g image t tail number disk) where
  ground : Ground g image t tail number disk
  ground = c.ground

  newest : ℕ
  newest = best t.number (pieces_for g.l)

  newest_below : newest < pieces_for g.l
  unfolding newest
  newest_below = best_below t.number (pieces_for g.l) (some_pieces g.l fit.some)

  number_low : 1 ≤ number
  unfolding newest ground
  number_low = rw ground.agreed.sound.number_is (ground.agreed.sound.from1 newest newest_below)

  -- The tail is signed and closing, and has the number.
  pub tail_says : (m : MapSector) × (image_view g image tail ≡ some m) × (m.number ≡ number) × (m.closing ≡ true) × (m.piece < pieces_for g.l)
  unfolding newest ground
  tail_says =
      let w = ground.agreed.live newest newest_below in
      let e = subst (λ (k : ℕ). image_view g image k ≡ some w.0) (sym ground.agreed.sound.tail_is) w.1 in
      (w.0, e, w.3 ∙ sym ground.agreed.sound.number_is, ground.closes w.0 e, subst (λ (p : ℕ). p < pieces_for g.l) (sym w.2) newest_below)

  tail_below : tail < g.n
  tail_below = let w = tail_says in view_below g image tail w.0 w.1

  pub finds_tail : newest_closing g.n (image_view g image) ≡ tail
  unfolding newest_closing
  finds_tail =
      let w = tail_says in
      best_unique (λ k. closing_number (image_view g image k)) g.n tail tail_below
      (λ j h d.
      rw (closing_is (image_view g image tail) w.0 w.1 w.3, w.2)
      (closing_below (image_view g image j) number number_low
      (λ a e q.
      ⊎_elim (λ (z : number < a.number). clash a.closing q (c.unclosed j a e z))
      (λ (z : a.number ≤ number).
      ⊎_elim (λ (y : a.number ≡ number). absurd (d (c.apart j tail a w.0 e w.1 (y ∙ sym w.2))))
      (λ (y : a.number ≡ number → ⊥). omega arith) (eq? a.number number))
      (lt? number a.number))))

  pub finds_number : closed_up_to g.n (image_view g image) ≡ number
  unfolding closed_up_to
  finds_number =
      let w = tail_says in
      ap (λ (k : ℕ). closing_number (image_view g image k)) finds_tail
      ∙ closing_is (image_view g image tail) w.0 w.1 w.3 ∙ w.2

  pub finds_place : (p : ℕ) → p < pieces_for g.l → scan_place g.n (image_view g image) number p ≡ t.place p
  unfolding scan_place ground
  finds_place p h =
      let w = ground.agreed.live p h in
      let most = number_most c.ground.agreed.sound p h in
      let low = ground.agreed.sound.from1 p h in
      let num = w.3 in
      best_unique (λ k. piece_number number p (image_view g image k)) g.n (t.place p) (view_below g image (t.place p) w.0 w.1)
      (λ j b d.
      rw (piece_is number p (image_view g image (t.place p)) w.0 w.1 w.2 (omega arith), w.3)
      (piece_below number p (image_view g image j) (t.number p) low
      (λ a e q z.
      let x = c.latest j a e z in
      let x' : a.number ≤ t.number p = subst (λ (r : ℕ). a.number ≤ t.number r) q x in
      ⊎_elim (λ (y : a.number ≡ t.number p). absurd (d (c.apart j (t.place p) a w.0 e w.1 (y ∙ sym w.3))))
      (λ (y : a.number ≡ t.number p → ⊥). omega arith) (eq? a.number (t.number p)))))

  -- Tables built from the live places are the tables.
  module _ (places : ℕ → ℕ) (right : (p : ℕ) → p < pieces_for g.l → places p ≡ t.place p) where
    same_places : tabled 0 (pieces_for g.l) places ≡ t.place
    unfolding ground
    same_places =
        fun_ext (λ p.
        ⊎_elim (λ (h : p < pieces_for g.l). tabled_at 0 (pieces_for g.l) places p h ∙ right p h)
        (λ (h : pieces_for g.l ≤ p). tabled_past 0 (pieces_for g.l) places p h ∙ sym (ground.places_past p h)) (lt? p (pieces_for g.l)))

    entries_at : (b : ℕ) → b < g.l → entry_in (index_of b) (image_view g image (t.place (piece_of b))) ≡ t.entry b
    unfolding ground entry_in
    entries_at b h =
        let w = ground.agreed.live (piece_of b) (omega arith) in
        ap (entry_in (index_of b)) w.1 ∙ ap (λ (es : List ℕ). at es (index_of b)) w.4 ∙ piece_entry g.l t.entry b h

    same_entries : tabled 0 g.l (λ b. entry_in (index_of b) (image_view g image (tabled 0 (pieces_for g.l) places (piece_of b)))) ≡ t.entry
    unfolding ground
    same_entries =
        fun_ext (λ b.
        ⊎_elim (λ (h : b < g.l).
        tabled_at 0 g.l (λ b. entry_in (index_of b) (image_view g image (tabled 0 (pieces_for g.l) places (piece_of b)))) b h
        ∙ ap (λ (f : ℕ → ℕ). entry_in (index_of b) (image_view g image (f (piece_of b)))) same_places ∙ entries_at b h)
        (λ (h : g.l ≤ b).
        tabled_past 0 g.l (λ b. entry_in (index_of b) (image_view g image (tabled 0 (pieces_for g.l) places (piece_of b)))) b h
        ∙ sym (ground.entries_past b h))
        (lt? b g.l))

    same_numbers : tabled 0 (pieces_for g.l) (λ p. number_in (image_view g image (tabled 0 (pieces_for g.l) places p))) ≡ t.number
    unfolding ground
    same_numbers =
        fun_ext (λ p.
        ⊎_elim (λ (h : p < pieces_for g.l).
        let w = ground.agreed.live p h in
        tabled_at 0 (pieces_for g.l) (λ p. number_in (image_view g image (tabled 0 (pieces_for g.l) places p))) p h
        ∙ ap (λ (f : ℕ → ℕ). number_in (image_view g image (f p))) same_places
        ∙ number_some (image_view g image (t.place p)) w.0 w.1 ∙ w.3)
        (λ (h : pieces_for g.l ≤ p).
        tabled_past 0 (pieces_for g.l) (λ p. number_in (image_view g image (tabled 0 (pieces_for g.l) places p))) p h
        ∙ sym (ground.numbers_past p h))
        (lt? p (pieces_for g.l)))

    pub same_tables : tables_from g.l (image_view g image) places ≡ t
    unfolding tables_from ground
    same_tables =
        let used = ap₂ (λ (e f : ℕ → ℕ). used_by (named_by g.l e f)) same_entries same_places ∙ fun_ext (λ k. sym (ground.used_all k)) in
        λ i. record { entry = same_entries i; place = same_places i; number = same_numbers i; is_used = used i }

  pub scans_log : scanned_log g (image_view g image) number ≡ record { tables = t; tail = tail; number = number }
  unfolding scanned_log
  scans_log =
      λ i.
      record {
        tables = same_tables (scan_place g.n (image_view g image) number) finds_place i;
        tail = finds_tail i;
        number = number;
      }

  numbers_distinct : distinct (signed_numbers (image_view g image) g.n) ≡ true
  unfolding signed_numbers distinct elem
  numbers_distinct =
      gathered_distinct (λ k. not (is_zero (number_in (image_view g image k)))) (λ k. number_in (image_view g image k)) [] g.n refl
      (λ i h e. refl)
      (λ i j h u e f q.
      let a = number_signed (image_view g image i) (eqb-false _ 0 (not_of (is_zero (number_in (image_view g image i))) e)) in
      let b = number_signed (image_view g image j) (eqb-false _ 0 (not_of (is_zero (number_in (image_view g image j))) f)) in
      c.apart i j a.0 b.0 a.1 b.1
      (sym (number_some (image_view g image i) a.0 a.1) ∙ q ∙ number_some (image_view g image j) b.0 b.1))

  none_missing : any_below (λ p. is_zero (piece_number number p (image_view g image (scan_place g.n (image_view g image) number p)))) (pieces_for g.l) ≡ false
  unfolding ground
  none_missing =
      any_below_none (λ p. is_zero (piece_number number p (image_view g image (scan_place g.n (image_view g image) number p)))) (pieces_for g.l)
      (λ p h.
      let w = ground.agreed.live p h in
      let low = ground.agreed.sound.from1 p h in
      let most = number_most c.ground.agreed.sound p h in
      let num = w.3 in
      let e = ap (λ (k : ℕ). piece_number number p (image_view g image k)) (finds_place p h)
      ∙ piece_is number p (image_view g image (t.place p)) w.0 w.1 w.2 (omega arith) ∙ w.3 in
      rw e (ne_eqb (t.number p) 0 (λ (z : t.number p ≡ 0). omega arith)))

  undamaged : scan_damaged g (image_view g image) number (record { tables = t; tail = tail; number = number }) ≡ false
  unfolding scan_damaged ground
  undamaged = rw (numbers_distinct, none_missing, sound_consistent g t tail number ground.agreed.sound) refl

  -- The scan is accepted, and what it found is the last closed commit.
  pub scan_finds : scan_finding g (image_view g image) (image 0)
      ≡ found (record { tables = t; tail = tail; number = number }) (Scanned g.n) (scan_stores g.n (image_view g image) (image 0) number)
  unfolding scan_finding
  scan_finds =
      rw (finds_number, ne_eqb number 0 (λ (z : number ≡ 0). let h = number_low in omega arith), scans_log, undamaged) refl
