-- A whole commit: its tables are sound, and its image says so.
use Prim.Native.Nat.{ℕ, suc, ◌+◌, ◌-◌, min, ◌≤◌, ◌<◌}
use mathlib.Core.Path.{◌≡◌, refl, sym, ◌∙◌, ap, subst}
use mathlib.Core.Logic.{◌⊎◌, inl, inr, ⊎_elim}
use mathlib.Core.Bool.{true, false, not}
use mathlib.Core.Option.{some}
use native.Mathlib.Omega.{arith}
use lib.ListN.{length}
use Rattle.geometry.specs.Geometry.{pieces_for}
use Rattle.layout.specs.Bounded.{at, best, count_below}
use Rattle.layout.specs.MapSector.{MapSector}
use Rattle.layout.specs.Entry.{is_empty, sector_of}
use Rattle.volume.specs.Tables.{named_by, used_by, free_sectors, piece_entries}
use Rattle.volume.specs.Commit.{rank, member_place, changed_entries, committed_tables}
use Rattle.volume.specs.Recover.{image_view}
use Rattle.laws.proofs.Bounded.{bool?, lt?, eq?, clash, best_unique, count_same}
use Rattle.laws.proofs.Names.{Name, piece, block, Named, sector_named, Sound, elem_named, named_distinct}
use Rattle.laws.proofs.Stores.{below_last}
use Rattle.agreement.proofs.Agreed.{Agreed, used_below, number_most}
use Rattle.agreement.proofs.Room.{free_count, named_length, full_count}
use Rattle.agreement.proofs.Plan.{Start, plan, members_is, members_some, written_below, rank_below, rank_once, at_below, at_free, at_low, at_once, named_used, member_place_lem}
use Rattle.agreement.proofs.Members.{tables', named?, entry_other, entry_stored, entry_dropped, entry_word', place_written, place_unwritten, number_written, number_unwritten}
use Rattle.agreement.proofs.Members.{used_exact, entries_kept, member_of, member_number, member_piece, member_entries}
use Rattle.agreement.proofs.Stored.{map_of, image', view_written, view_unwritten}

module _ (g : Start) where
  open g use {s, t, change, given}

  abbrev pub tail' : ℕ
  tail' = member_place (plan g) ((plan g).members - 1)

  abbrev pub number' : ℕ
  number' = s.number + (plan g).members

  -- The last member is the tail.
  pub last_written : (q : ℕ) × ((plan g).written q ≡ true) × ((plan g).members ≡ suc (rank (plan g) q))
  unfolding rank
  last_written =
      let w = below_last (plan g).written (map_of g) (pieces_for s.geometry.l) (let m = members_some g in let i = members_is g in omega arith) in
      (w.0, w.2, members_is g ∙ w.4)

  pub tail_place : (q : ℕ) → (plan g).written q ≡ true → (plan g).members ≡ suc (rank (plan g) q) → (tables' g).place q ≡ tail'
  tail_place q e m =
      let x : (plan g).members - 1 ≡ rank (plan g) q = omega arith in
      place_written g q e ∙ sym (member_place_lem g (rank (plan g) q)) ∙ ap (member_place (plan g)) (sym x)

  pub number_high : (p : ℕ) → p < pieces_for s.geometry.l → t.number p ≤ s.number
  number_high p h = number_most given.agreed.sound p h

  -- Whose sector it is, in the new tables: a new place, or one kept.
  abbrev Owner : ℕ → Name → Type 0
  Owner j (piece p) = ((plan g).written p ≡ true) × (j ≡ change.data_sectors + rank (plan g) p)
  Owner j (block b) = (j < change.data_sectors) × (at change.blocks j ≡ b)

  abbrev New : Name → Type 0
  New x = Named s.geometry.l (tables' g).entry (tables' g).place x

  abbrev new_sector : Name → ℕ
  new_sector x = sector_named s.geometry.l (tables' g).entry (tables' g).place x

  Source : Name → Type 0
  Source x =
      ((j : ℕ) × (j < change.data_sectors + (plan g).members) × (new_sector x ≡ at (plan g).places j) × Owner j x)
      ⊎ (Named s.geometry.l t.entry t.place x × (new_sector x ≡ sector_named s.geometry.l t.entry t.place x))

  source : (x : Name) → New x → Source x
  unfolding Source
  source (piece p) h =
      ⊎_elim (λ (e : (plan g).written p ≡ true).
      inl (change.data_sectors + rank (plan g) p, let r = rank_below g p e in omega arith, place_written g p e, (e, refl)))
      (λ (e : (plan g).written p ≡ false). inr (h, place_unwritten g p e)) (bool? ((plan g).written p))
  source (block b) h =
      ⊎_elim (λ w.
      ⊎_elim (λ (z : w.0 < change.data_sectors).
      inl (
        w.0,
        omega arith,
        subst (λ (c : ℕ). sector_of ((tables' g).entry c) ≡ at (plan g).places w.0) w.2 (entry_stored g w.0 z).1,
        (z, w.2),
      ))
      (λ (z : change.data_sectors ≤ w.0).
      let e = entry_dropped g w.0 z w.1 in
      clash (is_empty ((tables' g).entry b)) (subst (λ (c : ℕ). is_empty ((tables' g).entry c) ≡ true) w.2 (ap is_empty e)) h.1)
      (lt? w.0 change.data_sectors))
      (λ w.
      let e = entry_other g b w in
      inr ((h.0, ap is_empty (sym e) ∙ h.1), ap sector_of e))
      (named? g b)

  owner_once : (j : ℕ) (x y : Name) → Owner j x → Owner j y → x ≡ y
  owner_once j (piece p) (piece q) a b = ap piece (rank_once g p q a.0 b.0 (let u = a.1 in let v = b.1 in omega arith))
  owner_once j (piece p) (block c) a b = absurd (let u = a.1 in let v = b.0 in omega arith)
  owner_once j (block b) (piece p) a c = absurd (let u = c.1 in let v = a.0 in omega arith)
  owner_once j (block b) (block c) a d = ap block (sym a.1 ∙ d.1)

  once' : (x y : Name) → New x → New y → new_sector x ≡ new_sector y → x ≡ y
  unfolding Source
  once' x y h k e =
      ⊎_elim (λ a.
      ⊎_elim (λ b.
      let j = at_once g a.0 b.0 a.1 b.1 (sym a.2 ∙ e ∙ b.2) in
      owner_once a.0 x y a.3 (subst (λ (i : ℕ). Owner i y) (sym j) b.3))
      (λ b.
      clash (t.is_used (sector_named s.geometry.l t.entry t.place y)) (named_used g y b.0)
      (subst (λ (k : ℕ). t.is_used k ≡ false) (sym a.2 ∙ e ∙ b.1) (at_free g a.0 a.1)))
      (source y k))
      (λ a.
      ⊎_elim (λ b.
      clash (t.is_used (sector_named s.geometry.l t.entry t.place x)) (named_used g x a.0)
      (subst (λ (k : ℕ). t.is_used k ≡ false) (sym b.2 ∙ sym e ∙ a.1) (at_free g b.0 b.1)))
      (λ b. given.agreed.sound.once x y a.0 b.0 (sym a.1 ∙ e ∙ b.1)) (source y k))
      (source x h)

  low' : (x : Name) → New x → 1 ≤ new_sector x
  unfolding Source
  low' x h =
      ⊎_elim (λ a. rw a.2 (at_low g a.0 a.1)) (λ a. rw a.1 (given.agreed.sound.low x a.0)) (source x h)

  high' : (x : Name) → New x → new_sector x ≤ s.geometry.n - 1
  unfolding Source
  high' x h =
      ⊎_elim (λ a. rw a.2 (let b = at_below g a.0 a.1 in omega arith))
      (λ a. rw a.1 (given.agreed.sound.high x a.0)) (source x h)

  -- At most as many blocks more are full as data sectors are stored.
  entries_grow : count_below (λ b. not (is_empty ((tables' g).entry b))) s.geometry.l
      ≤ count_below (λ b. not (is_empty (t.entry b))) s.geometry.l + min (length change.blocks) change.data_sectors
  unfolding tables' committed_tables changed_entries
  entries_grow =
      full_count s.geometry.l t.entry (at change.blocks) (λ i. change.entry i (at (plan g).places i)) change.data_sectors
      (length change.blocks) (λ j a b. given.gone j (at (plan g).places j) a b)

  -- P sectors are free again.
  room' : pieces_for s.geometry.l ≤ free_sectors s.geometry.n (tables' g).is_used
  unfolding free_sectors
  room' =
      let sound = given.agreed.sound in
      let least = given.fit.least in
      let old = named_by s.geometry.l t.entry t.place in
      let new = named_by s.geometry.l (tables' g).entry (tables' g).place in
      let before = free_count s.geometry.n old (omega arith)
      (λ k e. let w = elem_named s.geometry.l t.entry t.place k e in
      (rw (← w.2) (sound.low w.0 w.1), let z = sound.high w.0 w.1 in let y = w.2 in omega arith))
      (named_distinct s.geometry.l t.entry t.place sound.once) in
      let now = free_count s.geometry.n new (omega arith)
      (λ k e. let w = elem_named s.geometry.l (tables' g).entry (tables' g).place k e in
      (rw (← w.2) (low' w.0 w.1), let z = high' w.0 w.1 in let y = w.2 in omega arith))
      (named_distinct s.geometry.l (tables' g).entry (tables' g).place once') in
      let same = count_same (λ k. not (t.is_used k)) (λ k. not (used_by old k)) s.geometry.n
      (λ k h. ap not (used_below sound k h)) in
      let exact = count_same (λ k. not ((tables' g).is_used k)) (λ k. not (used_by new k)) s.geometry.n (λ k h. ap not (used_exact g k)) in
      let l1 = named_length s.geometry.l t.entry t.place in
      let l2 = named_length s.geometry.l (tables' g).entry (tables' g).place in
      let more = entries_grow in
      let room = given.room in
      omega arith

  numbers' : (p q : ℕ) → p < pieces_for s.geometry.l → q < pieces_for s.geometry.l → (tables' g).number p ≡ (tables' g).number q → p ≡ q
  numbers' p q h k e =
      let hp = number_high p h in
      let hq = number_high q k in
      ⊎_elim (λ (a : (plan g).written p ≡ true).
      let x = number_written g p a in
      ⊎_elim (λ (b : (plan g).written q ≡ true). let y = number_written g q b in rank_once g p q a b (omega arith))
      (λ (b : (plan g).written q ≡ false). let y = number_unwritten g q b in absurd (omega arith)) (bool? ((plan g).written q)))
      (λ (a : (plan g).written p ≡ false).
      let x = number_unwritten g p a in
      ⊎_elim (λ (b : (plan g).written q ≡ true). let y = number_written g q b in absurd (omega arith))
      (λ (b : (plan g).written q ≡ false).
      let y = number_unwritten g q b in
      given.agreed.sound.numbers p q h k (omega arith))
      (bool? ((plan g).written q)))
      (bool? ((plan g).written p))

  from1' : (p : ℕ) → p < pieces_for s.geometry.l → 1 ≤ (tables' g).number p
  from1' p h =
      ⊎_elim (λ (a : (plan g).written p ≡ true). rw (number_written g p a) (omega arith))
      (λ (a : (plan g).written p ≡ false). rw (number_unwritten g p a) (given.agreed.sound.from1 p h))
      (bool? ((plan g).written p))

  newest' : (q : ℕ) → (plan g).written q ≡ true → (plan g).members ≡ suc (rank (plan g) q)
      → best (tables' g).number (pieces_for s.geometry.l) ≡ q
  newest' q e m =
      best_unique (tables' g).number (pieces_for s.geometry.l) q (written_below g q e)
      (λ p h d.
      let x = number_written g q e in
      let hp = number_high p h in
      ⊎_elim (λ (a : (plan g).written p ≡ true).
      let y = number_written g p a in
      let r = rank_below g p a in
      ⊎_elim (λ (z : rank (plan g) p ≡ rank (plan g) q). absurd (d (rank_once g p q a e z)))
      (λ (z : rank (plan g) p ≡ rank (plan g) q → ⊥). omega arith) (eq? (rank (plan g) p) (rank (plan g) q)))
      (λ (a : (plan g).written p ≡ false). let y = number_unwritten g p a in omega arith) (bool? ((plan g).written p)))

  sound' : Sound s.geometry (tables' g) tail' number'
  sound' =
      let w = last_written in
      let top = newest' w.0 w.1 w.2 in
      record {
        low = low';
        high = high';
        once = once';
        used = λ k h. used_exact g k;
        room = room';
        numbers = numbers';
        from1 = from1';
        tail_is = sym (tail_place w.0 w.1 w.2) ∙ ap (tables' g).place (sym top);
        number_is =
            (let x = number_written g w.0 w.1 in let y = w.2 in let z : number' ≡ (tables' g).number w.0 = omega arith in z)
            ∙ ap (tables' g).number (sym top);
      }

  -- What the image then says.
  live' : (p : ℕ) → p < pieces_for s.geometry.l
      → (m : MapSector) × (image_view s.geometry (image' g) ((tables' g).place p) ≡ some m) × (m.piece ≡ p)
      × (m.number ≡ (tables' g).number p) × (m.entries ≡ piece_entries s.geometry.l (tables' g).entry p)
  live' p h =
      ⊎_elim (λ (e : (plan g).written p ≡ true).
      (member_of g p, view_written g p e, member_piece g p, member_number g p ∙ sym (number_written g p e), member_entries g p))
      (λ (e : (plan g).written p ≡ false).
      let w = given.agreed.live p h in
      (w.0, view_unwritten g p h e ∙ w.1, w.2, w.3 ∙ sym (number_unwritten g p e), w.4 ∙ sym (entries_kept g p e)))
      (bool? ((plan g).written p))

  -- The tables agree with the image again.
  pub agreed' : Agreed s.geometry (image' g) (tables' g) tail' number'
  agreed' = record { sound = sound'; words = entry_word' g; live = live' }
