-- The members of a commit: its map sectors are well formed, and its stores bring what was planned.
use Prim.Native.Nat.{ℕ, zero, suc, ◌+◌, ◌*◌, ◌-◌, ◌/◌, ◌^◌, ◌≤◌, ◌<◌}
use mathlib.Core.Path.{◌≡◌, refl, sym, ◌∙◌, ap}
use mathlib.Core.Logic.{◌⊎◌, inl, inr, ⊎_elim}
use mathlib.Core.Bool.{Bool, true, false, cond, not}
use mathlib.Core.List.{List, [], ◌∷◌}
use mathlib.Core.Option.{some}
use native.Mathlib.Omega.{arith}
use lib.ListN.{length, drop}
use lib.Dec.{eqb, ltb, leb}
use borrow.Author.Tests.{eq-eqb, ne_eqb, eqb-true, lt-ltb, ltb-false, le-leb, lt-leb}
use Rattle.geometry.specs.Geometry.{within, pieces_for, branch_room}
use Rattle.layout.specs.Bounded.{at, all, elem, any_below, list_from, tabled, is_zero}
use Rattle.layout.specs.MapSector.{MapSector, decoded, encoded}
use Rattle.layout.specs.Entry.{is_empty, sector_of}
use Rattle.volume.specs.Tables.{Tables, named_by, used_by, piece_entries}
use Rattle.volume.specs.Commit.{touches, branches_for, planned, rank, member_place, changed_entries, committed_tables, member}
use Rattle.volume.specs.Calls.{view_of}
use Rattle.laws.proofs.Bounded.{bool?, lt?, clash, and_i, cond_true, cond_false, elem_here, elem_there, updates_at, updates_other, list_from_same, length_list_from, any_below_at, any_below_is}
use Rattle.laws.proofs.Codec.{is_word, WellFormed, decoded_encoded}
use Rattle.laws.proofs.Names.{piece, within_is}
use Rattle.laws.proofs.Sizes.{some_pieces}
use Rattle.agreement.proofs.Listing.{listing_places}
use Rattle.agreement.proofs.Plan.{Start, plan, listed, written_below, unwritten, rank_below, members_few, at_below, at_low, at_word, member_place_lem}

all_elems : (test : ℕ → Bool) (xs : List ℕ) → ((k : ℕ) → elem k xs ≡ true → test k ≡ true) → all test xs ≡ true
unfolding all
all_elems test [] f = refl
all_elems test (x ∷ xs) f = and_i (test x) (all test xs) (f x (elem_here x xs)) (all_elems test xs (λ k e. f k (elem_there k x xs e)))

all_from : (test : ℕ → Bool) (f : ℕ → ℕ) (from n : ℕ) → ((k : ℕ) → test (f k) ≡ true) → all test (list_from f from n) ≡ true
unfolding all list_from
all_from test f from zero h = refl
all_from test f from (suc n) h = and_i (test (f from)) (all test (list_from f (suc from) n)) (h from) (all_from test f (suc from) n h)

zeros_from : (f : ℕ → ℕ) (from n k : ℕ) → ((j : ℕ) → from + k ≤ j → is_zero (f j) ≡ true) → all is_zero (drop k (list_from f from n)) ≡ true
unfolding all list_from
zeros_from f from zero zero h = refl
zeros_from f from zero (suc k) h = refl
zeros_from f from (suc n) zero h =
    and_i (is_zero (f from)) (all is_zero (list_from f (suc from) n)) (h from (omega arith)) (zeros_from f (suc from) n zero (λ j b. h j (omega arith)))
zeros_from f from (suc n) (suc k) h = zeros_from f (suc from) n k (λ j b. h j (omega arith))

module _ (l : ℕ) (entry : ℕ → ℕ) (p : ℕ) where
  pub entries_count : length (piece_entries l entry p) ≡ 96
  unfolding piece_entries
  entries_count = length_list_from (λ b. cond (leb l b) 0 (entry b)) (96 * p) 96

  pub entries_words : ((b : ℕ) → b < l → entry b < 2 ^ 32) → all is_word (piece_entries l entry p) ≡ true
  unfolding piece_entries
  entries_words h =
      all_from is_word (λ b. cond (leb l b) 0 (entry b)) (96 * p) 96
      (λ b.
      ⊎_elim (λ (z : b < l). rw (lt-leb l b z) (lt-ltb (entry b) (2 ^ 32) (h b z))) (λ (z : l ≤ b). rw (le-leb l b z) refl) (lt? b l))

  pub entries_past_l : all is_zero (drop (l - 96 * p) (piece_entries l entry p)) ≡ true
  unfolding piece_entries
  entries_past_l =
      zeros_from (λ b. cond (leb l b) 0 (entry b)) (96 * p) 96 (l - 96 * p)
      (λ b h. rw (le-leb l b (omega arith)) refl)

module _ (g : Start) where
  open g use {rules, law, s, t, image, change, given}

  unfoldable pub tables' : Tables
  tables' = committed_tables s t (plan g) change

  -- A block is named, or it is not.
  pub named? : (b : ℕ) → ((i : ℕ) × (i < length change.blocks) × (at change.blocks i ≡ b))
      ⊎ ((i : ℕ) → i < length change.blocks → at change.blocks i ≡ b → ⊥)
  named? b =
      ⊎_elim (λ (z : any_below (λ i. eqb (at change.blocks i) b) (length change.blocks) ≡ true).
      let w = any_below_at (λ i. eqb (at change.blocks i) b) (length change.blocks) z in
      inl (w.0, w.1, eqb-true (at change.blocks w.0) b w.2))
      (λ (z : any_below (λ i. eqb (at change.blocks i) b) (length change.blocks) ≡ false).
      inr (λ i h e.
      clash (any_below (λ i. eqb (at change.blocks i) b) (length change.blocks))
      (any_below_is (λ i. eqb (at change.blocks i) b) (length change.blocks) i h (eq-eqb (at change.blocks i) b e)) z))
      (bool? (any_below (λ i. eqb (at change.blocks i) b) (length change.blocks)))

  pub entry_named : (i : ℕ) → i < length change.blocks → tables'.entry (at change.blocks i) ≡ change.entry i (at (plan g).places i)
  unfolding tables' committed_tables changed_entries
  entry_named i h =
      updates_at t.entry (at change.blocks) (λ j. change.entry j (at (plan g).places j)) (length change.blocks) i h given.apart

  pub entry_other : (b : ℕ) → ((i : ℕ) → i < length change.blocks → at change.blocks i ≡ b → ⊥) → tables'.entry b ≡ t.entry b
  unfolding tables' committed_tables changed_entries
  entry_other b h =
      updates_other t.entry (at change.blocks) (λ j. change.entry j (at (plan g).places j)) (length change.blocks) b h

  pub entry_stored : (i : ℕ) → i < change.data_sectors
      → (is_empty (tables'.entry (at change.blocks i)) ≡ false) × (sector_of (tables'.entry (at change.blocks i)) ≡ at (plan g).places i)
  entry_stored i h =
      let f = given.few in
      let e = entry_named i (omega arith) in
      let low = at_low g i (omega arith) in
      let high = at_word g i (omega arith) in
      (rw e (given.full i (at (plan g).places i) h low high), rw e (given.sector i (at (plan g).places i) h low high))

  pub entry_dropped : (i : ℕ) → change.data_sectors ≤ i → i < length change.blocks → tables'.entry (at change.blocks i) ≡ 0
  entry_dropped i h b = entry_named i b ∙ given.gone i (at (plan g).places i) h b

  pub entry_word' : (b : ℕ) → b < s.geometry.l → tables'.entry b < 2 ^ 32
  entry_word' b h =
      ⊎_elim (λ w.
      let i = w.0 in
      ⊎_elim (λ (z : i < change.data_sectors).
      rw (← w.2, entry_named i w.1)
      (given.word i (at (plan g).places i) z (at_low g i (omega arith)) (at_word g i (omega arith))))
      (λ (z : change.data_sectors ≤ i). rw (← w.2, entry_dropped i z w.1) (omega arith)) (lt? i change.data_sectors))
      (λ w. rw (entry_other b w) (given.agreed.words b h)) (named? b)

  pub place_written : (p : ℕ) → (plan g).written p ≡ true → tables'.place p ≡ at (plan g).places (change.data_sectors + rank (plan g) p)
  unfolding tables' committed_tables
  place_written p e =
      cond_true ((plan g).written p) (member_place (plan g) (rank (plan g) p)) (t.place p) e ∙ member_place_lem g (rank (plan g) p)

  pub place_unwritten : (p : ℕ) → (plan g).written p ≡ false → tables'.place p ≡ t.place p
  unfolding tables' committed_tables
  place_unwritten p e = cond_false ((plan g).written p) (member_place (plan g) (rank (plan g) p)) (t.place p) e

  pub number_written : (p : ℕ) → (plan g).written p ≡ true → tables'.number p ≡ suc (s.number + rank (plan g) p)
  unfolding tables' committed_tables
  number_written p e = cond_true ((plan g).written p) (suc (s.number + rank (plan g) p)) (t.number p) e

  pub number_unwritten : (p : ℕ) → (plan g).written p ≡ false → tables'.number p ≡ t.number p
  unfolding tables' committed_tables
  number_unwritten p e = cond_false ((plan g).written p) (suc (s.number + rank (plan g) p)) (t.number p) e

  pub used_exact : (k : ℕ) → tables'.is_used k ≡ used_by (named_by s.geometry.l tables'.entry tables'.place) k
  unfolding tables' committed_tables
  used_exact k = refl

  -- An unwritten piece keeps its entries.
  pub entries_kept : (p : ℕ) → (plan g).written p ≡ false → piece_entries s.geometry.l tables'.entry p ≡ piece_entries s.geometry.l t.entry p
  unfolding piece_entries
  entries_kept p e =
      list_from_same (λ b. cond (leb s.geometry.l b) 0 (tables'.entry b)) (λ b. cond (leb s.geometry.l b) 0 (t.entry b)) (96 * p) 96
      (λ b low high.
      ap (cond (leb s.geometry.l b) 0)
      (entry_other b (λ i h z. unwritten g p e i h (ap (λ (x : ℕ). x / 96) z ∙ (let q : b / 96 ≡ p = omega arith in q)))))

  -- What the first member lists.
  pub listed_places : (k : ℕ) → elem k (listed g) ≡ true → (p : ℕ) × (p < pieces_for s.geometry.l) × (t.place p ≡ k)
  unfolding listed branches_for
  listed_places k e =
      let remaining = tabled false (pieces_for s.geometry.l) (λ q. not (touches change.blocks q)) in
      let w = listing_places (pieces_for s.geometry.l) t (view_of s.geometry image) remaining (some_pieces s.geometry.l given.fit.some) (pieces_for s.geometry.l) (suc s.number) (λ _. false) k e in
      (w.0, w.1, w.3)

  pub fold_is : (plan g).fold ≡ ltb rules.branch_limit (length (listed g))
  unfolding plan planned listed
  fold_is = refl

  pub branches_is : (plan g).branches ≡ cond (plan g).fold [] (listed g)
  unfolding plan planned listed
  branches_is = refl

  first_few : length (plan g).branches ≤ branch_room
  first_few =
      ⊎_elim (λ (z : (plan g).fold ≡ true). rw (branches_is, z) (omega arith))
      (λ (z : (plan g).fold ≡ false).
      let a = ltb-false rules.branch_limit (length (listed g)) (sym fold_is ∙ z) in
      let b = law.few in
      rw (branches_is, z) (omega arith))
      (bool? (plan g).fold)

  first_fit : all (within 1 (s.geometry.n - 1)) (plan g).branches ≡ true
  unfolding all
  first_fit =
      ⊎_elim (λ (z : (plan g).fold ≡ true). rw (branches_is, z) refl)
      (λ (z : (plan g).fold ≡ false).
      rw (branches_is, z)
      (all_elems (within 1 (s.geometry.n - 1)) (listed g)
      (λ k e.
      let w = listed_places k e in
      rw (← w.2)
      (within_is 1 (s.geometry.n - 1) (t.place w.0) (given.agreed.sound.low (piece w.0) w.1)
      (given.agreed.sound.high (piece w.0) w.1)))))
      (bool? (plan g).fold)

  abbrev pub member_of : ℕ → MapSector
  member_of p = member s t (plan g) change p

  pub member_number : (p : ℕ) → (member_of p).number ≡ suc (s.number + rank (plan g) p)
  unfolding member
  member_number p = refl

  pub member_piece : (p : ℕ) → (member_of p).piece ≡ p
  unfolding member
  member_piece p = refl

  pub member_closing : (p : ℕ) → (member_of p).closing ≡ eqb (suc (rank (plan g) p)) (plan g).members
  unfolding member
  member_closing p = refl

  pub member_entries : (p : ℕ) → (member_of p).entries ≡ piece_entries s.geometry.l tables'.entry p
  unfolding member tables'
  member_entries p = refl

  pub member_first : (p : ℕ) → rank (plan g) p ≡ 0 → (member_of p).branches ≡ (plan g).branches
  unfolding member
  member_first p e = rw e refl

  pub member_later : (p j : ℕ) → rank (plan g) p ≡ suc j → (member_of p).branches ≡ at (plan g).places (change.data_sectors + j) ∷ []
  unfolding member
  member_later p j e =
      let x : suc j - 1 ≡ j = omega arith in
      rw (e, x, ne_eqb (suc j) 0 (λ (z : suc j ≡ 0). omega arith)) (ap (λ (k : ℕ). k ∷ []) (member_place_lem g j))

  branches_few : (p : ℕ) → length (member_of p).branches ≤ branch_room
  branches_few p = by (rank (plan g) p) refl
    where
      by : (j : ℕ) → rank (plan g) p ≡ j → length (member_of p).branches ≤ branch_room
      by zero e = rw (member_first p e) first_few
      by (suc j) e = rw (member_later p j e) (omega arith)

  branches_in_lem : (p : ℕ) → (plan g).written p ≡ true → all (within 1 (s.geometry.n - 1)) (member_of p).branches ≡ true
  unfolding all
  branches_in_lem p w = by (rank (plan g) p) refl
    where
      by : (j : ℕ) → rank (plan g) p ≡ j → all (within 1 (s.geometry.n - 1)) (member_of p).branches ≡ true
      by zero e = rw (member_first p e) first_fit
      by (suc j) e =
          let r = rank_below g p w in
          let low = at_low g (change.data_sectors + j) (omega arith) in
          let high = at_below g (change.data_sectors + j) (omega arith) in
          rw (member_later p j e, within_is 1 (s.geometry.n - 1) (at (plan g).places (change.data_sectors + j)) low (omega arith)) refl

  pub member_fits : (p : ℕ) → (plan g).written p ≡ true → WellFormed s.geometry (member_of p)
  member_fits p e =
      let r = rank_below g p e in
      let f = members_few g in
      let m = given.fit.most in
      let n1 = given.numbers in
      let n2 = law.numbers in
      record {
        sectors = given.fit.sectors;
        blocks = omega arith;
        low = rw (member_number p) (omega arith);
        high = rw (member_number p) (omega arith);
        piece = rw (member_piece p) (written_below g p e);
        few = branches_few p;
        branches = branches_in_lem p e;
        count = rw (member_entries p) (entries_count s.geometry.l tables'.entry p);
        entries = rw (member_entries p) (entries_words s.geometry.l tables'.entry p entry_word');
        past = rw (member_entries p, member_piece p) (entries_past_l s.geometry.l tables'.entry p);
      }

  -- A member that was stored is signed, and says what it was made of.
  pub member_signed : (p : ℕ) → (plan g).written p ≡ true → decoded s.geometry (encoded s.geometry.l (member_of p)) ≡ some (member_of p)
  member_signed p e = decoded_encoded s.geometry (member_of p) (member_fits p e)
