-- The sectors that tables name, each by the piece or the block that names it, and soundness said of these.
use Prim.Native.Nat.{ℕ, ◌*◌, ◌-◌, ◌≤◌, ◌<◌}
use mathlib.Core.Path.{◌≡◌, refl, sym, ap}
use mathlib.Core.Logic.{⊎_elim}
use mathlib.Core.Bool.{Bool, true, false, not, ◌&&◌, beq, true≢false}
use mathlib.Core.List.{List, []}
use native.Mathlib.Omega.{arith}
use lib.Dec.{leb, eqb}
use borrow.Author.Tests.{leb-true, le-leb, eqb-true, eq-eqb}
use Rattle.geometry.specs.declared.Geometry.{Geometry}
use Rattle.geometry.specs.Geometry.{within, pieces_for, used_bytes}
use Rattle.layout.specs.Bounded.{always, all_below, best, all, elem, distinct, gathered}
use Rattle.layout.specs.Entry.{is_empty, sector_of}
use Rattle.volume.specs.Tables.{Tables, named_by, used_by, free_sectors, consistent}
use Rattle.laws.proofs.Bounded.{lt?, and_l, and_r, and_i, not_is, not_of, not_elem, clash, all_below_at, all_below_is, gathered_has, gathered_own, gathered_other, gathered_distinct, gathered_rest, gathered_apart, gathered_injective, gathered_all, all_elem}

-- Who names a sector.
pub data Name : Type 0 where
  piece : ℕ → Name
  block : ℕ → Name

-- The test that a value gathered from a bound is its own only one, in both orders.
module _ (test : ℕ → Bool) (value : ℕ → ℕ) (others : List ℕ) where
  pub gathered_same : (n : ℕ) → distinct (gathered test value others n) ≡ true
      → (i j : ℕ) → i < n → j < n → test i ≡ true → test j ≡ true → value i ≡ value j → i ≡ j
  gathered_same n d i j h g e f q =
      ⊎_elim (λ (z : i < j). absurd (gathered_injective test value others n d i j z g e f q))
      (λ (z : j ≤ i).
      ⊎_elim (λ (y : j < i). absurd (gathered_injective test value others n d j i y h f e (sym q))) (λ (y : i ≤ j). omega arith)
      (lt? j i))
      (lt? i j)

module _ (l : ℕ) (entry place : ℕ → ℕ) where
  abbrev pub sector_named : Name → ℕ
  sector_named (piece p) = place p
  sector_named (block b) = sector_of (entry b)

  abbrev pub Named : Name → Type 0
  Named (piece p) = p < pieces_for l
  Named (block b) = (b < l) × (is_empty (entry b) ≡ false)

  pub named_elem : (x : Name) → Named x → elem (sector_named x) (named_by l entry place) ≡ true
  unfolding named_by
  named_elem (piece p) h =
      gathered_other (λ b. not (is_empty (entry b))) (λ b. sector_of (entry b)) (gathered always place [] (pieces_for l)) l (place p)
      (gathered_own always place [] (pieces_for l) p h refl)
  named_elem (block b) h =
      gathered_own (λ b. not (is_empty (entry b))) (λ b. sector_of (entry b)) (gathered always place [] (pieces_for l)) l b h.0
      (not_is (is_empty (entry b)) h.1)

  pub elem_named : (k : ℕ) → elem k (named_by l entry place) ≡ true → (x : Name) × Named x × (sector_named x ≡ k)
  unfolding named_by elem
  elem_named k e =
      ⊎_elim (λ (z : elem k (gathered always place [] (pieces_for l)) ≡ true).
      ⊎_elim (λ (y : elem k [] ≡ true). absurd (true≢false (sym y)))
      (λ w. (piece w.0, w.1, w.3)) (gathered_has always place [] (pieces_for l) k z))
      (λ w. (block w.0, (w.1, not_of (is_empty (entry w.0)) w.2), w.3))
      (gathered_has (λ b. not (is_empty (entry b))) (λ b. sector_of (entry b)) (gathered always place [] (pieces_for l)) l k e)

  -- No sector is named twice.
  pub named_once : distinct (named_by l entry place) ≡ true → (x y : Name) → Named x → Named y → sector_named x ≡ sector_named y → x ≡ y
  unfolding named_by
  named_once d (piece p) (piece q) h g e =
      ap piece
      (gathered_same always place [] (pieces_for l)
      (gathered_rest (λ b. not (is_empty (entry b))) (λ b. sector_of (entry b)) (gathered always place [] (pieces_for l)) l d) p q h g refl refl e)
  named_once d (piece p) (block b) h g e =
      clash (elem (sector_of (entry b)) (gathered always place [] (pieces_for l)))
      (rw e at (gathered_own always place [] (pieces_for l) p h refl))
      (gathered_apart (λ b. not (is_empty (entry b))) (λ b. sector_of (entry b)) (gathered always place [] (pieces_for l)) l d b g.0
      (not_is (is_empty (entry b)) g.1))
  named_once d (block b) (piece p) h g e =
      clash (elem (sector_of (entry b)) (gathered always place [] (pieces_for l)))
      (rw (sym e) at (gathered_own always place [] (pieces_for l) p g refl))
      (gathered_apart (λ b. not (is_empty (entry b))) (λ b. sector_of (entry b)) (gathered always place [] (pieces_for l)) l d b h.0
      (not_is (is_empty (entry b)) h.1))
  named_once d (block b) (block c) h g e =
      ap block
      (gathered_same (λ b. not (is_empty (entry b))) (λ b. sector_of (entry b)) (gathered always place [] (pieces_for l)) l d b c h.0 g.0
      (not_is (is_empty (entry b)) h.1) (not_is (is_empty (entry c)) g.1) e)

  piece_of_name : Name → ℕ
  piece_of_name (piece p) = p
  piece_of_name (block b) = b

  is_piece : Name → ℕ
  is_piece (piece p) = 1
  is_piece (block b) = 0

  pub named_distinct : ((x y : Name) → Named x → Named y → sector_named x ≡ sector_named y → x ≡ y) → distinct (named_by l entry place) ≡ true
  unfolding named_by distinct elem piece_of_name is_piece
  named_distinct f =
      gathered_distinct (λ b. not (is_empty (entry b))) (λ b. sector_of (entry b)) (gathered always place [] (pieces_for l)) l
      (gathered_distinct always place [] (pieces_for l) refl (λ i h e. refl)
      (λ i j h g e e' q. ap piece_of_name (f (piece i) (piece j) h g q)))
      (λ b h e.
      not_elem (sector_of (entry b)) (gathered always place [] (pieces_for l))
      (λ (o : elem (sector_of (entry b)) (gathered always place [] (pieces_for l)) ≡ true).
      ⊎_elim (λ (y : elem (sector_of (entry b)) [] ≡ true). true≢false (sym y))
      (λ w.
      let z = ap is_piece (f (piece w.0) (block b) w.1 (h, not_of (is_empty (entry b)) e) w.3) in
      omega arith)
      (gathered_has always place [] (pieces_for l) (sector_of (entry b)) o)))
      (λ b c h g e e' q.
      ap piece_of_name (f (block b) (block c) (h, not_of (is_empty (entry b)) e) (g, not_of (is_empty (entry c)) e') q))

  pub named_all : (check : ℕ → Bool) → ((x : Name) → Named x → check (sector_named x) ≡ true) → all check (named_by l entry place) ≡ true
  unfolding named_by all
  named_all check f =
      gathered_all (λ b. not (is_empty (entry b))) (λ b. sector_of (entry b)) (gathered always place [] (pieces_for l)) check l
      (gathered_all always place [] check (pieces_for l) refl (λ p h e. f (piece p) h))
      (λ b h e. f (block b) (h, not_of (is_empty (entry b)) e))

-- Sound tables, as facts.
pub record Sound (g : Geometry) (t : Tables) (tail number : ℕ) : Type 0 where
  pub low : (x : Name) → Named g.l t.entry t.place x → 1 ≤ sector_named g.l t.entry t.place x
  pub high : (x : Name) → Named g.l t.entry t.place x → sector_named g.l t.entry t.place x ≤ g.n - 1
  pub once : (x y : Name) → Named g.l t.entry t.place x → Named g.l t.entry t.place y
      → sector_named g.l t.entry t.place x ≡ sector_named g.l t.entry t.place y → x ≡ y
  pub used : (k : ℕ) → k < 8 * used_bytes g.n → t.is_used k ≡ used_by (named_by g.l t.entry t.place) k
  pub room : pieces_for g.l ≤ free_sectors g.n t.is_used
  pub numbers : (p q : ℕ) → p < pieces_for g.l → q < pieces_for g.l → t.number p ≡ t.number q → p ≡ q
  pub from1 : (p : ℕ) → p < pieces_for g.l → 1 ≤ t.number p
  pub tail_is : tail ≡ t.place (best t.number (pieces_for g.l))
  pub number_is : number ≡ t.number (best t.number (pieces_for g.l))

pub beq_true : (a b : Bool) → beq a b ≡ true → a ≡ b
beq_true true true e = refl
beq_true true false e = absurd (true≢false (sym e))
beq_true false true e = absurd (true≢false (sym e))
beq_true false false e = refl

true_beq : (a b : Bool) → a ≡ b → beq a b ≡ true
true_beq true true e = refl
true_beq true false e = absurd (true≢false e)
true_beq false true e = absurd (true≢false (sym e))
true_beq false false e = refl

within_low : (low high x : ℕ) → within low high x ≡ true → low ≤ x
within_low low high x e = leb-true low x (and_l (leb low x) (leb x high) e)

within_high : (low high x : ℕ) → within low high x ≡ true → x ≤ high
within_high low high x e = leb-true x high (and_r (leb low x) (leb x high) e)

pub within_is : (low high x : ℕ) → low ≤ x → x ≤ high → within low high x ≡ true
within_is low high x a b = and_i (leb low x) (leb x high) (le-leb low x a) (le-leb x high b)

module _ (g : Geometry) (t : Tables) (tail number : ℕ) where
  c1 : Bool
  c1 = all (within 1 (g.n - 1)) (named_by g.l t.entry t.place)

  c2 : Bool
  c2 = distinct (named_by g.l t.entry t.place)

  c3 : Bool
  c3 = all_below (λ k. beq (t.is_used k) (used_by (named_by g.l t.entry t.place) k)) (8 * used_bytes g.n)

  c4 : Bool
  c4 = leb (pieces_for g.l) (free_sectors g.n t.is_used)

  c5 : Bool
  c5 = distinct (gathered always t.number [] (pieces_for g.l))

  c6 : Bool
  c6 = all_below (λ q. leb 1 (t.number q)) (pieces_for g.l)

  c7 : Bool
  c7 = eqb tail (t.place (best t.number (pieces_for g.l)))

  c8 : Bool
  c8 = eqb number (t.number (best t.number (pieces_for g.l)))

  pub sound : consistent g t tail number ≡ true → Sound g t tail number
  unfolding consistent c1 c2 c3 c4 c5 c6 c7 c8
  sound e =
      let e7 = and_l (c1 && c2 && c3 && c4 && c5 && c6 && c7) c8 e in
      let e6 = and_l (c1 && c2 && c3 && c4 && c5 && c6) c7 e7 in
      let e5 = and_l (c1 && c2 && c3 && c4 && c5) c6 e6 in
      let e4 = and_l (c1 && c2 && c3 && c4) c5 e5 in
      let e3 = and_l (c1 && c2 && c3) c4 e4 in
      let e2 = and_l (c1 && c2) c3 e3 in
      let range = and_l c1 c2 e2 in
      record {
        low = λ x h. within_low 1 (g.n - 1) _ (all_elem (within 1 (g.n - 1)) (named_by g.l t.entry t.place) _ range (named_elem g.l t.entry t.place x h));
        high = λ x h. within_high 1 (g.n - 1) _ (all_elem (within 1 (g.n - 1)) (named_by g.l t.entry t.place) _ range (named_elem g.l t.entry t.place x h));
        once = named_once g.l t.entry t.place (and_r c1 c2 e2);
        used = λ k h. beq_true (t.is_used k) _ (all_below_at _ (8 * used_bytes g.n) (and_r (c1 && c2) c3 e3) k h);
        room = leb-true (pieces_for g.l) _ (and_r (c1 && c2 && c3) c4 e4);
        numbers = λ p q h u. gathered_same always t.number [] (pieces_for g.l) (and_r (c1 && c2 && c3 && c4) c5 e5) p q h u refl refl;
        from1 = λ p h. leb-true 1 _ (all_below_at (λ q. leb 1 (t.number q)) (pieces_for g.l) (and_r (c1 && c2 && c3 && c4 && c5) c6 e6) p h);
        tail_is = eqb-true tail _ (and_r (c1 && c2 && c3 && c4 && c5 && c6) c7 e7);
        number_is = eqb-true number _ (and_r (c1 && c2 && c3 && c4 && c5 && c6 && c7) c8 e);
      }

  pub sound_consistent : Sound g t tail number → consistent g t tail number ≡ true
  unfolding consistent c1 c2 c3 c4 c5 c6 c7 c8 elem distinct
  sound_consistent s =
      let r1 = named_all g.l t.entry t.place (within 1 (g.n - 1)) (λ x h. within_is 1 (g.n - 1) _ (s.low x h) (s.high x h)) in
      let r2 = named_distinct g.l t.entry t.place s.once in
      let r3 = all_below_is (λ k. beq (t.is_used k) (used_by (named_by g.l t.entry t.place) k)) (8 * used_bytes g.n)
      (λ k h. true_beq (t.is_used k) _ (s.used k h)) in
      let r4 = le-leb (pieces_for g.l) (free_sectors g.n t.is_used) s.room in
      let r5 = gathered_distinct always t.number [] (pieces_for g.l) refl (λ i h e. refl) (λ i j h u e e' q. s.numbers i j h u q) in
      let r6 = all_below_is (λ q. leb 1 (t.number q)) (pieces_for g.l) (λ q h. le-leb 1 _ (s.from1 q h)) in
      let r7 = eq-eqb tail (t.place (best t.number (pieces_for g.l))) s.tail_is in
      let r8 = eq-eqb number (t.number (best t.number (pieces_for g.l))) s.number_is in
      and_i (c1 && c2 && c3 && c4 && c5 && c6 && c7) c8
      (and_i (c1 && c2 && c3 && c4 && c5 && c6) c7
      (and_i (c1 && c2 && c3 && c4 && c5) c6
      (and_i (c1 && c2 && c3 && c4) c5 (and_i (c1 && c2 && c3) c4 (and_i (c1 && c2) c3 (and_i c1 c2 r1 r2) r3) r4) r5) r6)
      r7)
      r8
