-- The used map after a commit: without what was superseded, and with the sectors taken, it is the used map of the new tables.
use Prim.Native.Nat.{ℕ, suc, ◌+◌, ◌*◌, ◌-◌, ◌/◌, ◌%◌, ◌^◌, ◌≤◌, ◌<◌}
use mathlib.Core.Path.{◌≡◌, refl, sym, ◌∙◌, ap, fun_ext, subst}
use mathlib.Core.Logic.{◌⊎◌, inl, inr, ⊎_elim}
use mathlib.Core.Bool.{Bool, true, false, cond, not, ◌&&◌, ◌||◌}
use mathlib.Core.List.{List, []}
use native.Mathlib.Nat.{zero-div}
use native.Mathlib.Omega.{arith}
use lib.ListN.{length, get_or-eq_default}
use lib.Dec.{eqb}
use borrow.Author.Tests.{eqb-true, eq-eqb, ne_eqb}
use Rattle.geometry.specs.declared.Geometry.{Geometry}
use Rattle.state.specs.declared.State.{State}
use Rattle.geometry.specs.Geometry.{pieces_for, used_bytes, geometry_fits}
use Rattle.layout.specs.Bounded.{at, any_below, count_below, elem, updates}
use Rattle.layout.specs.Entry.{is_empty, sector_of}
use Rattle.volume.specs.Tables.{Tables, bit_at, tables_of, named_by, used_by, consistent}
use Rattle.volume.specs.Commit.{rank, member_place, changed_entries, committed_tables}
use Rattle.laws.proofs.Bounded.{bool?, lt?, clash, and_l, and_r, and_i, or_cases, or_l, or_r, or_none, not_is, not_of, cond_true, cond_false, updates_other, updates_at, any_below_at, any_below_is, count_before, count_nth, not_elem}
use Rattle.laws.proofs.Names.{Name, piece, block, Named, sector_named, named_elem, elem_named, Sound, sound}
use Rattle.laws.proofs.Sizes.{fits}
use Rattle.laws.proofs.CommitPassed.{all_apart}
use Rattle.pieces.specs.Arrays.{flagged, without, plan_of, change_of, Settling}

alike : (a b : Bool) → (a ≡ true → b ≡ true) → (b ≡ true → a ≡ true) → a ≡ b
alike true b f g = sym (f refl)
alike false true f g = g refl
alike false false f g = refl

module _ (g : Geometry) (tail number : ℕ) (mp pl nu us blocks news taken written : List ℕ) (count : ℕ)
    (some : 1 ≤ g.n) (size : length us ≡ used_bytes g.n)
    (s : Sound g (tables_of mp pl nu us) tail number) (gg : Settling g number blocks news taken count written) where
  abbrev entry' : ℕ → ℕ
  entry' = updates (at mp) (at blocks) (at news) (length blocks)

  abbrev place' : ℕ → ℕ
  place' p = cond (flagged written p) (at taken (count + count_below (flagged written) p)) (at pl p)

  abbrev before : List ℕ
  before = named_by g.l (at mp) (at pl)

  abbrev after : List ℕ
  after = named_by g.l entry' place'

  entry_named : (i : ℕ) → i < length blocks → entry' (at blocks i) ≡ at news i
  entry_named i h = updates_at (at mp) (at blocks) (at news) (length blocks) i h (all_apart blocks gg.ascending)

  entry_other : (b : ℕ) → ((i : ℕ) → i < length blocks → at blocks i ≡ b → ⊥) → entry' b ≡ at mp b
  entry_other b d = updates_other (at mp) (at blocks) (at news) (length blocks) b d

  named? : (b : ℕ) → ((i : ℕ) × (i < length blocks) × (at blocks i ≡ b)) ⊎ ((i : ℕ) → i < length blocks → at blocks i ≡ b → ⊥)
  named? b =
      ⊎_elim (λ (e : any_below (λ i. eqb (at blocks i) b) (length blocks) ≡ true).
      let w = any_below_at (λ i. eqb (at blocks i) b) (length blocks) e in inl (w.0, w.1, eqb-true (at blocks w.0) b w.2))
      (λ (e : any_below (λ i. eqb (at blocks i) b) (length blocks) ≡ false).
      inr (λ i h f. clash (any_below (λ i. eqb (at blocks i) b) (length blocks)) (any_below_is (λ i. eqb (at blocks i) b) (length blocks) i h (eq-eqb (at blocks i) b f)) e))
      (bool? (any_below (λ i. eqb (at blocks i) b) (length blocks)))

  rank_below : (p : ℕ) → p < pieces_for g.l → flagged written p ≡ true → count + count_below (flagged written) p < length taken
  rank_below p h e = let b = count_before (flagged written) p (pieces_for g.l) h e in let t = gg.taken_all in omega arith

  -- Each sector taken is named: by its block, or by its piece.
  new_named : (j : ℕ) → j < length taken → elem (at taken j) after ≡ true
  new_named j h =
      ⊎_elim (λ (z : j < count).
      let few = gg.few in
      let here = entry_named j (omega arith) in
      subst (λ (x : ℕ). elem x after ≡ true) (ap sector_of here ∙ gg.names j z)
      (named_elem g.l entry' place' (block (at blocks j)) (gg.inside j (omega arith), ap is_empty here ∙ gg.full j z)))
      (λ (z : count ≤ j).
      let t = gg.taken_all in
      let w = count_nth (flagged written) (pieces_for g.l) (j - count) (omega arith) in
      let r = w.3 in
      subst (λ (x : ℕ). elem x after ≡ true)
      (cond_true (flagged written w.0) _ (at pl w.0) w.2 ∙ ap (at taken) (let q : count + count_below (flagged written) w.0 ≡ j = omega arith in q))
      (named_elem g.l entry' place' (piece w.0) w.1))
      (lt? j count)

  -- A name that the commit does not touch.
  Kept : Name → Type 0
  Kept (piece p) = flagged written p ≡ false
  Kept (block b) = (i : ℕ) → i < length blocks → at blocks i ≡ b → ⊥

  kept_after : (x : Name) → Kept x → Named g.l (at mp) (at pl) x → elem (sector_named g.l (at mp) (at pl) x) after ≡ true
  unfolding Kept
  kept_after (piece p) k h = subst (λ (y : ℕ). elem y after ≡ true) (cond_false (flagged written p) _ (at pl p) k) (named_elem g.l entry' place' (piece p) h)
  kept_after (block b) k h =
      let e = entry_other b k in
      subst (λ (y : ℕ). elem y after ≡ true) (ap sector_of e) (named_elem g.l entry' place' (block b) (h.0, ap is_empty e ∙ h.1))

  -- What names a sector afterwards that was not taken, named it before and is kept.
  was_named : (k : ℕ) → ((j : ℕ) → j < length taken → at taken j ≡ k → ⊥) → (x : Name) → Named g.l entry' place' x → sector_named g.l entry' place' x ≡ k
      → Kept x × Named g.l (at mp) (at pl) x × (sector_named g.l (at mp) (at pl) x ≡ k)
  unfolding Kept
  was_named k old (piece p) h e =
      ⊎_elim (λ (w : flagged written p ≡ true).
      absurd (old (count + count_below (flagged written) p) (rank_below p h w) (sym (cond_true (flagged written p) _ (at pl p) w) ∙ e)))
      (λ (w : flagged written p ≡ false). (w, h, sym (cond_false (flagged written p) _ (at pl p) w) ∙ e)) (bool? (flagged written p))
  was_named k old (block b) h e =
      ⊎_elim (λ w.
      let here = ap entry' (sym w.2) ∙ entry_named w.0 w.1 in
      ⊎_elim (λ (z : w.0 < count).
      let few = gg.few in
      let room = gg.taken_all in
      absurd (old w.0 (omega arith) (sym (gg.names w.0 z) ∙ ap sector_of (sym here) ∙ e)))
      (λ (z : count ≤ w.0). absurd (clash (is_empty (entry' b)) (ap is_empty (here ∙ gg.emptied w.0 z w.1)) h.1)) (lt? w.0 count))
      (λ d. (d, (h.0, ap is_empty (sym (entry_other b d)) ∙ h.1), ap sector_of (sym (entry_other b d)) ∙ e)) (named? b)

  -- The used map before, at every sector.
  was_used : (k : ℕ) → bit_at us k ≡ used_by before k
  unfolding bit_at used_by
  was_used k =
      ⊎_elim (λ (h : k < 8 * used_bytes g.n). s.used k h)
      (λ (h : 8 * used_bytes g.n ≤ k).
      (ap (λ (x : ℕ). eqb (x / 2 ^ (k % 8) % 2) 1) (get_or-eq_default us 0 {n = k / 8} (omega arith))
      ∙ ap (λ (x : ℕ). eqb (x % 2) 1) (zero-div (2 ^ (k % 8))))
      ∙ sym
      (or_none (eqb k 0) (elem k before) (ne_eqb k 0 (λ (z : k ≡ 0). omega arith))
      (not_elem k before (λ (e : elem k before ≡ true).
      let w = elem_named g.l (at mp) (at pl) k e in
      let high = s.high w.0 w.1 in
      let q = w.2 in
      omega arith))))
      (lt? k (8 * used_bytes g.n))

  abbrev full : ℕ → Bool
  full i = not (is_empty (at mp (at blocks i)))

  abbrev sector : ℕ → ℕ
  sector i = sector_of (at mp (at blocks i))

  -- A superseded sector is not named afterwards.
  gone : (k : ℕ) → ((j : ℕ) → j < length taken → at taken j ≡ k → ⊥) → (x : Name) → Named g.l (at mp) (at pl) x → sector_named g.l (at mp) (at pl) x ≡ k
      → (Kept x → ⊥) → used_by after k ≡ false
  unfolding used_by
  gone k old x h e lost =
      let low = s.low x h in
      or_none (eqb k 0) (elem k after) (ne_eqb k 0 (λ (z : k ≡ 0). omega arith))
      (not_elem k after (λ (f : elem k after ≡ true).
      let w = elem_named g.l entry' place' k f in
      let v = was_named k old w.0 w.1 w.2 in
      lost (subst Kept (s.once w.0 x v.1 h (v.2 ∙ sym e)) v.0)))

  -- One that was neither taken nor superseded is used as before.
  stays : (k : ℕ) → ((j : ℕ) → j < length taken → at taken j ≡ k → ⊥)
      → ((i : ℕ) → i < length blocks → full i ≡ true → sector i ≡ k → ⊥) → ((p : ℕ) → p < pieces_for g.l → flagged written p ≡ true → at pl p ≡ k → ⊥)
      → used_by before k ≡ used_by after k
  unfolding used_by Kept
  stays k old d1 d2 =
      alike (used_by before k) (used_by after k)
      (λ e.
      ⊎_elim (λ (z : eqb k 0 ≡ true). or_l (eqb k 0) (elem k after) z)
      (λ (z : elem k before ≡ true).
      let w = elem_named g.l (at mp) (at pl) k z in
      or_r (eqb k 0) (elem k after) (subst (λ (x : ℕ). elem x after ≡ true) w.2 (kept_after w.0 (kept w.0 w.1 w.2) w.1)))
      (or_cases (eqb k 0) (elem k before) e))
      (λ e.
      ⊎_elim (λ (z : eqb k 0 ≡ true). or_l (eqb k 0) (elem k before) z)
      (λ (z : elem k after ≡ true).
      let w = elem_named g.l entry' place' k z in
      let v = was_named k old w.0 w.1 w.2 in
      or_r (eqb k 0) (elem k before) (subst (λ (x : ℕ). elem x before ≡ true) v.2 (named_elem g.l (at mp) (at pl) w.0 v.1)))
      (or_cases (eqb k 0) (elem k after) e))
    where
      kept : (x : Name) → Named g.l (at mp) (at pl) x → sector_named g.l (at mp) (at pl) x ≡ k → Kept x
      kept (piece p) h e =
          ⊎_elim (λ (w : flagged written p ≡ true). absurd (d2 p h w e)) (λ (w : flagged written p ≡ false). w) (bool? (flagged written p))
      kept (block b) h e =
          λ i j f. d1 i j (ap (λ (x : ℕ). not (is_empty (at mp x))) f ∙ not_is (is_empty (at mp b)) h.1) (ap (λ (x : ℕ). sector_of (at mp x)) f ∙ e)

  abbrev taken? : ℕ → Bool
  taken? k = any_below (λ i. eqb k (at taken i)) (length taken)

  abbrev by_block : ℕ → Bool
  by_block k = any_below (λ i. full i && eqb k (sector i)) (length blocks)

  abbrev by_piece : ℕ → Bool
  by_piece k = any_below (λ p. flagged written p && eqb k (at pl p)) (pieces_for g.l)

  not_taken : (k : ℕ) → taken? k ≡ false → (j : ℕ) → j < length taken → at taken j ≡ k → ⊥
  not_taken k e j h f = clash (taken? k) (any_below_is (λ i. eqb k (at taken i)) (length taken) j h (eq-eqb k (at taken j) (sym f))) e

  at_sector : (k : ℕ) → ((bit_at us k && not (by_block k)) && not (by_piece k)) || taken? k ≡ used_by after k
  unfolding Kept used_by
  at_sector k =
      ⊎_elim (λ (e : taken? k ≡ true).
      let w = any_below_at (λ i. eqb k (at taken i)) (length taken) e in
      let q = eqb-true k (at taken w.0) w.2 in
      or_r ((bit_at us k && not (by_block k)) && not (by_piece k)) (taken? k) e
      ∙ sym (or_r (eqb k 0) (elem k after) (subst (λ (x : ℕ). elem x after ≡ true) (sym q) (new_named w.0 w.1))))
      (λ (e : taken? k ≡ false).
      let old = not_taken k e in
      ⊎_elim (λ (a : by_block k ≡ true).
      let w = any_below_at (λ i. full i && eqb k (sector i)) (length blocks) a in
      let b = at blocks w.0 in
      rw (e, a) (cut_1 (bit_at us k) (by_piece k)
      ∙ sym
      (gone k old (block b) (gg.inside w.0 w.1, not_of (is_empty (at mp b)) (and_l (full w.0) (eqb k (sector w.0)) w.2))
      (sym (eqb-true k (sector w.0) (and_r (full w.0) (eqb k (sector w.0)) w.2))) (λ (d : Kept (block b)). d w.0 w.1 refl))))
      (λ (a : by_block k ≡ false).
      ⊎_elim (λ (c : by_piece k ≡ true).
      let w = any_below_at (λ p. flagged written p && eqb k (at pl p)) (pieces_for g.l) c in
      rw (e, a, c) (cut_2 (bit_at us k)
      ∙ sym
      (gone k old (piece w.0) w.1 (sym (eqb-true k (at pl w.0) (and_r (flagged written w.0) (eqb k (at pl w.0)) w.2)))
      (λ (d : Kept (piece w.0)). clash (flagged written w.0) (and_l (flagged written w.0) (eqb k (at pl w.0)) w.2) d))))
      (λ (c : by_piece k ≡ false).
      rw (e, a, c) (same (bit_at us k) ∙ was_used k
      ∙ stays k old
      (λ i h f q. clash (by_block k) (any_below_is (λ i. full i && eqb k (sector i)) (length blocks) i h (and_i (full i) (eqb k (sector i)) f (eq-eqb k (sector i) (sym q)))) a)
      (λ p h f q. clash (by_piece k) (any_below_is (λ p. flagged written p && eqb k (at pl p)) (pieces_for g.l) p h (and_i (flagged written p) (eqb k (at pl p)) f (eq-eqb k (at pl p) (sym q)))) c)))
      (bool? (by_piece k)))
      (bool? (by_block k)))
      (bool? (taken? k))
    where
      cut_1 : (u p : Bool) → (((u && false) && not p) || false) ≡ false
      cut_1 true p = refl
      cut_1 false p = refl

      cut_2 : (u : Bool) → (((u && true) && false) || false) ≡ false
      cut_2 true = refl
      cut_2 false = refl

      same : (u : Bool) → (((u && true) && true) || false) ≡ u
      same true = refl
      same false = refl

  -- The bits as the code leaves them.
  pub used_after : (bits : ℕ → Bool) → length pl ≡ pieces_for g.l
      → bits ≡ (λ k. without (without (bit_at us) full sector (length blocks)) (flagged written) (at pl) (length pl) k || taken? k) → bits ≡ used_by after
  unfolding without
  used_after bits len e =
      e
      ∙ fun_ext (λ k.
      ap (λ (x : ℕ). without (without (bit_at us) full sector (length blocks)) (flagged written) (at pl) x k || taken? k) len ∙ at_sector k)

-- The bits after each step: superseded entries, superseded places, sectors taken.
pub used_steps : (bits bits1 bits2 bits3 full written : ℕ → Bool) (sector place taken : ℕ → ℕ) (n pieces count : ℕ) → bits1 ≡ without bits full sector n
    → bits2 ≡ without bits1 written place pieces → bits3 ≡ (λ k. bits2 k || any_below (λ i. eqb k (taken i)) count)
    → bits3 ≡ (λ k. without (without bits full sector n) written place pieces k || any_below (λ i. eqb k (taken i)) count)
used_steps bits bits1 bits2 bits3 full written sector place taken n pieces count e f h =
    h
    ∙ fun_ext (λ k.
    ap (λ (x : ℕ → Bool). x k || any_below (λ i. eqb k (taken i)) count) (f ∙ ap {B = ℕ → Bool} (λ (x : ℕ → Bool). without x written place pieces) e))

-- Sectors that have a bit, in a used map of the same size.
pub bits_kept : (sector : ℕ → ℕ) (n size size' : ℕ) → size' ≡ size → ((i : ℕ) → i < n → sector i < 8 * size) → (i : ℕ) → i < n → sector i < 8 * size'
bits_kept sector n size size' e inside i h = let z = inside i h in omega arith

-- The bits that a change of the tables touches are in the used map.
module _ (g : Geometry) (tail number : ℕ) (mp pl nu us : List ℕ) (some : 1 ≤ g.n) (s : Sound g (tables_of mp pl nu us) tail number) where
  pub entry_bit : (size : ℕ) → size ≡ used_bytes g.n → length mp ≡ g.l → (b : ℕ) → b < length mp → is_empty (at mp b) ≡ false → sector_of (at mp b) < 8 * size
  entry_bit size e len b h f = let z = s.high (block b) (subst (λ (x : ℕ). b < x) len h, f) in omega arith

  pub place_bit : (size : ℕ) → size ≡ used_bytes g.n → length pl ≡ pieces_for g.l → (p : ℕ) → p < length pl → at pl p < 8 * size
  place_bit size e len p h = let z = s.high (piece p) (subst (λ (x : ℕ). p < x) len h) in omega arith

pub taken_bit : (n size : ℕ) (taken : List ℕ) → size ≡ used_bytes n → ((i : ℕ) → i < length taken → at taken i < n) → (i : ℕ) → i < length taken → at taken i < 8 * size
taken_bit n size taken e below i h = let z = below i h in omega arith

-- The tables, from their parts.
pub settled_tables : (s : State) (mp pl nu us blocks news taken written : List ℕ) (count : ℕ) (entry place number : ℕ → ℕ) (bits : ℕ → Bool)
    → entry ≡ updates (at mp) (at blocks) (at news) (length blocks)
    → place ≡ (λ p. cond (flagged written p) (at taken (count + count_below (flagged written) p)) (at pl p))
    → number ≡ (λ p. cond (flagged written p) (suc (s.number + count_below (flagged written) p)) (at nu p))
    → bits
    ≡ used_by
    (named_by s.geometry.l (updates (at mp) (at blocks) (at news) (length blocks))
    (λ p. cond (flagged written p) (at taken (count + count_below (flagged written) p)) (at pl p)))
    → ◌≡◌ {A = Tables} (record { entry = entry; place = place; number = number; is_used = bits })
    (committed_tables s (tables_of mp pl nu us) (plan_of [] written 0 count taken 0) (change_of blocks news count))
unfolding committed_tables changed_entries member_place rank
settled_tables s mp pl nu us blocks news taken written count entry place number bits e f g h =
    ap (λ (x : ℕ → ℕ). record { entry = x; place = place; number = number; is_used = bits }) e
    ∙ ap (λ (x : ℕ → ℕ). record { entry = updates (at mp) (at blocks) (at news) (length blocks); place = x; number = number; is_used = bits }) f
    ∙ ap (λ (x : ℕ → ℕ). record {
      entry = updates (at mp) (at blocks) (at news) (length blocks);
      place = λ p. cond (flagged written p) (at taken (count + count_below (flagged written) p)) (at pl p);
      number = x;
      is_used = bits;
    }) g
    ∙ ap (λ (x : ℕ → Bool). record {
      entry = updates (at mp) (at blocks) (at news) (length blocks);
      place = λ p. cond (flagged written p) (at taken (count + count_below (flagged written) p)) (at pl p);
      number = λ p. cond (flagged written p) (suc (s.number + count_below (flagged written) p)) (at nu p);
      is_used = x;
    }) h

-- What each step asks for.
pub used_needs : (g : Geometry) (tail number : ℕ) (mp pl nu us blocks news taken written : List ℕ) (count : ℕ) → geometry_fits g ≡ true → length mp ≡ g.l
    → length pl ≡ pieces_for g.l → length us ≡ used_bytes g.n → consistent g (tables_of mp pl nu us) tail number ≡ true
    → Settling g number blocks news taken count written
    → ((i : ℕ) → i < length blocks → at blocks i < length mp)
    × (((b : ℕ) → b < length mp → is_empty (at mp b) ≡ false → sector_of (at mp b) < 8 * length us)
    × ((length pl ≤ length written) × (((p : ℕ) → p < length pl → at pl p < 8 * length us) × ((i : ℕ) → i < length taken → at taken i < 8 * length us))))
used_needs g tail number mp pl nu us blocks news taken written count f e p u k s =
    let least = (fits g f).least in
    let some : 1 ≤ g.n = omega arith in
    let snd = sound g (tables_of mp pl nu us) tail number k in
    let flags = s.flags in (
      λ i h. subst (λ (x : ℕ). at blocks i < x) (sym e) (s.inside i h),
      (
        entry_bit g tail number mp pl nu us some snd (length us) u e,
        (omega arith, (place_bit g tail number mp pl nu us some snd (length us) u p, taken_bit g.n (length us) taken u s.below)),
      ),
    )

module _ (g : Geometry) (number : ℕ) (blocks news taken written : List ℕ) (count : ℕ) (s : Settling g number blocks news taken count written) where
  pub map_needs : (n : ℕ) → n ≡ g.l → (length blocks ≤ length news) × ((i : ℕ) → i < length blocks → at blocks i < n)
  map_needs n e = (s.enough, λ i h. subst (λ (x : ℕ). at blocks i < x) (sym e) (s.inside i h))

  pub live_needs : (n m : ℕ) → n ≡ pieces_for g.l → m ≡ pieces_for g.l
      → (n ≡ m)
      × ((n ≤ length written)
      × (((p : ℕ) → n ≤ p → flagged written p ≡ false)
      × ((count + count_below (flagged written) n ≤ length taken) × (number + count_below (flagged written) n < 2 ^ 32))))
  live_needs n m e h =
      let w = s.flags in
      let all = s.taken_all in
      let num = s.numbers in
      let cnt : count_below (flagged written) n ≡ count_below (flagged written) (pieces_for g.l) = ap (count_below (flagged written)) e in
      (e ∙ sym h, (omega arith, (λ p k. s.past p (omega arith), (omega arith, omega arith))))

-- All of it: the tables that the steps leave.
pub settled : (s : State) (mp pl nu us blocks news taken written : List ℕ) (count : ℕ) → geometry_fits s.geometry ≡ true
    → length pl ≡ pieces_for s.geometry.l → length us ≡ used_bytes s.geometry.n
    → consistent s.geometry (tables_of mp pl nu us) s.tail s.number ≡ true
    → Settling s.geometry s.number blocks news taken count written → (entry place number : ℕ → ℕ) (bits : ℕ → Bool)
    → entry ≡ updates (at mp) (at blocks) (at news) (length blocks)
    → place ≡ (λ p. cond (flagged written p) (at taken (count + count_below (flagged written) p)) (at pl p))
    → number ≡ (λ p. cond (flagged written p) (suc (s.number + count_below (flagged written) p)) (at nu p))
    → bits
    ≡ (λ k.
    without (without (bit_at us) (λ i. not (is_empty (at mp (at blocks i)))) (λ i. sector_of (at mp (at blocks i))) (length blocks)) (flagged written) (at pl) (length pl) k
    || any_below (λ i. eqb k (at taken i)) (length taken))
    → ◌≡◌ {A = Tables} (record { entry = entry; place = place; number = number; is_used = bits })
    (committed_tables s (tables_of mp pl nu us) (plan_of [] written 0 count taken 0) (change_of blocks news count))
settled s mp pl nu us blocks news taken written count f p u k d entry place number bits e q h b =
    let least = (fits s.geometry f).least in
    let some : 1 ≤ s.geometry.n = omega arith in
    let snd = sound s.geometry (tables_of mp pl nu us) s.tail s.number k in
    settled_tables s mp pl nu us blocks news taken written count entry place number bits e q h
    (used_after s.geometry s.tail s.number mp pl nu us blocks news taken written count some u snd d bits p b)
