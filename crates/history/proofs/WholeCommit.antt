-- A whole commit: from its tail every live map sector is reached, and its image holds what the plain disk then has.
use Prim.Native.Nat.{ℕ, zero, suc, ◌+◌, ◌-◌, ◌≤◌, ◌<◌}
use mathlib.Core.Path.{◌≡◌, refl, sym, ◌∙◌, ap, subst}
use mathlib.Core.Logic.{◌⊎◌, inl, inr, ⊎_elim}
use mathlib.Core.Bool.{Bool, true, false, not, ◌&&◌, true≢false}
use mathlib.Core.List.{List, []}
use mathlib.Core.Option.{none, some}
use native.Mathlib.Omega.{arith}
use lib.ListN.{length}
use lib.Dec.{ltb}
use borrow.Author.Tests.{eq-eqb}
use Rattle.geometry.specs.Geometry.{pieces_for}
use Rattle.layout.specs.Bounded.{at, elem, tabled, updates}
use Rattle.layout.specs.MapSector.{MapSector, decoded}
use Rattle.layout.specs.Entry.{blank, is_empty, sector_of, restored}
use Rattle.volume.specs.Commit.{touches, branches_in, branches_for, rank, commit_stores}
use Rattle.volume.specs.Calls.{view_of}
use Rattle.volume.specs.Recover.{image_view}
use Rattle.history.specs.History.{Disk, Reaches, itself, through}
use Rattle.laws.proofs.Bounded.{bool?, lt?, clash, or_left, or_right, not_is, not_of, cond_false, elem_here, count_le, count_nth, tabled_at, updates_at, updates_other}
use Rattle.laws.proofs.Names.{block}
use Rattle.laws.proofs.Sizes.{some_pieces, view_at, view_below, view_same}
use Rattle.agreement.proofs.Listing.{Linked, direct, via, linked_below, linked_remaining, listing_covers}
use Rattle.agreement.proofs.Plan.{Start, plan, listed, members_is, members_some, members_few, written_is, written_past, written_below, rank_below, at_below, at_low, at_word}
use Rattle.agreement.proofs.Members.{tables', named?, entry_named, entry_other, entry_stored, entry_dropped, place_written, place_unwritten, number_written, number_unwritten}
use Rattle.agreement.proofs.Members.{used_exact, branches_is, member_of, member_number, member_piece, member_closing, member_first, member_later}
use Rattle.agreement.proofs.Stored.{kept, image', Any, kinds, data_stands, view_written, view_unwritten}
use Rattle.agreement.proofs.Sound.{tail', number', last_written, tail_place, number_high, agreed'}
use Rattle.history.proofs.Invariant.{Ground, Settled}
use Rattle.history.proofs.CutCommit.{Settling, old_number, blank_kept, signed_cases, apart_after}

module _ {g : Start} {disk : Disk} {after : ℕ → List ℕ} (on : Settling g disk after) where
  open g use {law, s, t, image, change, given}
  open on use {settled, unsigned, back, emptied}

  abbrev pub disk' : Disk
  disk' = updates disk (at change.blocks) after (length change.blocks)

  -- The chain: from the tail down the members, and from the first member to what remains.
  abbrev Reached : ℕ → Type 0
  Reached p = Reaches (image_view s.geometry (image' g)) (tables' g).place (pieces_for s.geometry.l) (tail' g) p

  member_reached : (k p : ℕ) → (plan g).written p ≡ true → rank (plan g) p + suc k ≡ (plan g).members → Reached p
  unfolding rank elem
  member_reached zero p e m =
      let last = tail_place g p e (let x : (plan g).members ≡ suc (rank (plan g) p) = omega arith in x) in
      itself (written_below g p e) last (ap (image_view s.geometry (image' g)) (sym last) ∙ view_written g p e)
  member_reached (suc k) p e m =
      let w = count_nth (plan g).written (pieces_for s.geometry.l) (suc (rank (plan g) p)) (let i = members_is g in omega arith) in
      let q = w.0 in
      let r : rank (plan g) q ≡ suc (rank (plan g) p) = w.3 in
      let here = place_written g p e in
      through (member_reached k q w.2 (omega arith)) (view_written g q w.2) (written_below g p e)
      (subst (λ (xs : List ℕ). elem ((tables' g).place p) xs ≡ true) (sym (member_later g q (rank (plan g) p) r))
      (rw here (elem_here (at (plan g).places (change.data_sectors + rank (plan g) p)) [])))
      (view_written g p e) (let a = member_number g p in let b = member_number g q in omega arith)

  written_reached : (p : ℕ) → (plan g).written p ≡ true → Reached p
  written_reached p e =
      let r = rank_below g p e in
      member_reached ((plan g).members - suc (rank (plan g) p)) p e (omega arith)

  abbrev remaining : ℕ → Bool
  remaining = tabled false (pieces_for s.geometry.l) (λ q. not (touches change.blocks q))

  remaining_unwritten : (plan g).fold ≡ false → (p : ℕ) → p < pieces_for s.geometry.l → remaining p ≡ true → (plan g).written p ≡ false
  remaining_unwritten f p h r =
      let x = not_of (touches change.blocks p) (sym (tabled_at false (pieces_for s.geometry.l) (λ q. not (touches change.blocks q)) p h) ∙ r) in
      written_is g p h ∙ rw (f, x) refl

  unwritten_remaining : (p : ℕ) → p < pieces_for s.geometry.l → (plan g).written p ≡ false → ((plan g).fold ≡ false) × (remaining p ≡ true)
  unwritten_remaining p h e =
      let x = sym (written_is g p h) ∙ e in (
        or_left (plan g).fold (touches change.blocks p) x,
        tabled_at false (pieces_for s.geometry.l) (λ q. not (touches change.blocks q)) p h
            ∙ not_is (touches change.blocks p) (or_right (plan g).fold (touches change.blocks p) x),
      )

  -- The view at an unwritten piece.
  kept_says : (p : ℕ) → p < pieces_for s.geometry.l → (plan g).written p ≡ false
      → (m : MapSector) × (image_view s.geometry (image' g) ((tables' g).place p) ≡ some m) × (m.number ≡ t.number p)
      × (branches_in (view_of s.geometry image (t.place p)) ≡ m.branches)
  unfolding branches_in
  kept_says p h e =
      let w = given.agreed.live p h in (
        w.0,
        view_unwritten g p h e ∙ w.1,
        w.3,
        ap branches_in (sym (view_at s.geometry image (t.place p) (view_below s.geometry image (t.place p) w.0 w.1)) ∙ w.1),
      )

  linked_reached : (plan g).fold ≡ false → (p : ℕ) → Linked (pieces_for s.geometry.l) t (view_of s.geometry image) remaining (listed g) p → Reached p
  unfolding rank
  linked_reached f p (direct h r e) =
      let u = remaining_unwritten f p h r in
      let w = count_nth (plan g).written (pieces_for s.geometry.l) 0 (let i = members_is g in let m = members_some g in omega arith) in
      let q = w.0 in
      let rank0 : rank (plan g) q ≡ 0 = w.3 in
      let k = kept_says p h u in
      let bs : (member_of g q).branches ≡ listed g = member_first g q rank0 ∙ branches_is g ∙ cond_false (plan g).fold [] (listed g) f in
      through (written_reached q w.2) (view_written g q w.2) h
      (rw (bs, place_unwritten g p u) e) k.1 (let a = member_number g q in let b = number_high g p h in let c = k.2 in omega arith)
  linked_reached f p (via {q = q} l h r e lt) =
      let uq = remaining_unwritten f q (linked_below l) (linked_remaining l) in
      let up = remaining_unwritten f p h r in
      let kq = kept_says q (linked_below l) uq in
      let kp = kept_says p h up in
      through (linked_reached f q l) kq.1 h
      (rw (place_unwritten g p up) (subst (λ (xs : List ℕ). elem (t.place p) xs ≡ true) kq.3 e)) kp.1
      (let a = kq.2 in let b = kp.2 in omega arith)

  abbrev none_reached : ℕ → Bool
  none_reached q = false

  all_linked : (p : ℕ) → p < pieces_for s.geometry.l → remaining p ≡ true → Linked (pieces_for s.geometry.l) t (view_of s.geometry image) remaining (listed g) p
  unfolding listed branches_for
  all_linked p h r =
      listing_covers (pieces_for s.geometry.l) t (view_of s.geometry image) remaining (some_pieces s.geometry.l given.fit.some)
      given.agreed.sound.numbers (listed g) (pieces_for s.geometry.l) (suc s.number) none_reached
      (λ k e. e) (λ q i u e. absurd (true≢false (sym e)))
      (count_le (λ q. remaining q && ltb (t.number q) (suc s.number)) (pieces_for s.geometry.l)) p h r (given.agreed.sound.from1 p h)
      (let b = number_high g p h in omega arith)

  chain' : (p : ℕ) → p < pieces_for s.geometry.l → Reached p
  chain' p h =
      ⊎_elim (λ (e : (plan g).written p ≡ true). written_reached p e)
      (λ (e : (plan g).written p ≡ false).
      let w = unwritten_remaining p h e in
      linked_reached w.0 p (all_linked p h w.1))
      (bool? ((plan g).written p))

  closes' : (m : MapSector) → image_view s.geometry (image' g) (tail' g) ≡ some m → m.closing ≡ true
  closes' m e =
      let w = last_written g in
      let v = subst (λ (k : ℕ). image_view s.geometry (image' g) k ≡ some (member_of g w.0)) (tail_place g w.0 w.1 w.2)
      (view_written g w.0 w.1) in
      let same : m ≡ member_of g w.0 = cc in
      ap (λ (x : MapSector). x.closing) same ∙ member_closing g w.0 ∙ eq-eqb (suc (rank (plan g) w.0)) (plan g).members (sym w.2)

  disk_named : (i : ℕ) → i < length change.blocks → disk' (at change.blocks i) ≡ after i
  disk_named i h = updates_at disk (at change.blocks) after (length change.blocks) i h given.apart

  disk_other : (b : ℕ) → ((i : ℕ) → i < length change.blocks → at change.blocks i ≡ b → ⊥) → disk' b ≡ disk b
  disk_other b h = updates_other disk (at change.blocks) after (length change.blocks) b h

  abbrev Holds : ℕ → Type 0
  Holds b =
      ((is_empty ((tables' g).entry b) ≡ true) × (disk' b ≡ blank))
      ⊎ ((is_empty ((tables' g).entry b) ≡ false) × (restored ((tables' g).entry b) (image' g (sector_of ((tables' g).entry b))) ≡ disk' b)
      × (image_view s.geometry (image' g) (sector_of ((tables' g).entry b)) ≡ none))

  named_holds : (i : ℕ) → i < length change.blocks → Holds (at change.blocks i)
  named_holds i h =
      ⊎_elim (λ (z : i < change.data_sectors).
      let e = entry_stored g i z in
      let low = at_low g i (omega arith) in
      let high = at_word g i (omega arith) in
      let stands = data_stands g i z in
      inr (
        e.0,
        rw (e.1, stands, entry_named g i h, disk_named i h) (back i (at (plan g).places i) z low high),
        rw e.1
            (view_at s.geometry (image' g) (at (plan g).places i) (at_below g i (omega arith)) ∙ ap (decoded s.geometry) stands
            ∙ unsigned i z),
      ))
      (λ (z : change.data_sectors ≤ i).
      inl (ap is_empty (entry_dropped g i z h), disk_named i h ∙ emptied i z h))
      (lt? i change.data_sectors)

  other_holds : (b : ℕ) → b < s.geometry.l → ((i : ℕ) → i < length change.blocks → at change.blocks i ≡ b → ⊥) → Holds b
  other_holds b h f =
      let e = entry_other g b f in
      let d = disk_other b f in
      let ground = settled.committed.ground in
      ⊎_elim (λ (z : is_empty (t.entry b) ≡ true). inl (ap is_empty e ∙ z, d ∙ ground.empty b h z))
      (λ (z : is_empty (t.entry b) ≡ false).
      let same = kept g (commit_stores s t (plan g) change) (Any g) (kinds g) (block b) (h, z) in
      inr (
        ap is_empty e ∙ z,
        rw (e, same, d) (ground.full b h z),
        rw e (view_same s.geometry (image' g) image (sector_of (t.entry b)) same ∙ ground.unsigned b h z),
      ))
      (bool? (is_empty (t.entry b)))

  holds' : (b : ℕ) → b < s.geometry.l → Holds b
  holds' b h = ⊎_elim (λ w. subst Holds w.2 (named_holds w.0 w.1)) (λ w. other_holds b h w) (named? g b)

  ground' : Ground s.geometry (image' g) (tables' g) (tail' g) (number' g) disk'
  ground' =
      let ground = settled.committed.ground in
      record {
        agreed = agreed' g;
        high = let a = given.numbers in let b = law.numbers in let c = members_few g in let m = given.fit.most in omega arith;
        closes = closes';
        chain = chain';
        empty = λ b h e.
            ⊎_elim (λ w. w.1) (λ w. clash (is_empty ((tables' g).entry b)) e w.0) (holds' b h);
        full = λ b h e.
            ⊎_elim (λ w. clash (is_empty ((tables' g).entry b)) w.0 e) (λ w. w.1) (holds' b h);
        unsigned = λ b h e.
            ⊎_elim (λ w. clash (is_empty ((tables' g).entry b)) w.0 e) (λ w. w.2) (holds' b h);
        places_past = λ p h. place_unwritten g p (written_past g p h) ∙ ground.places_past p h;
        numbers_past = λ p h. number_unwritten g p (written_past g p h) ∙ ground.numbers_past p h;
        entries_past = λ b h.
            entry_other g b (λ i k z. let x = given.blocks i k in omega arith) ∙ ground.entries_past b h;
        used_all = used_exact g;
      }

  above' : (k : ℕ) (a : MapSector) → image_view s.geometry (image' g) k ≡ some a → a.number ≤ number' g
  above' k a e =
      ⊎_elim (λ x. let o = old_number on k a x in omega arith)
      (λ x.
      let q = ap (λ (m : MapSector). m.number) x.4 ∙ member_number g x.0 in
      let r = rank_below g x.0 x.1 in
      omega arith)
      (signed_cases on (commit_stores s t (plan g) change) (Any g) (kinds g) k a e)

  latest' : (k : ℕ) (a : MapSector) → image_view s.geometry (image' g) k ≡ some a → a.number ≤ number' g
      → a.number ≤ (tables' g).number a.piece
  latest' k a e h =
      ⊎_elim (λ x.
      let o = old_number on k a x in
      let old = settled.committed.latest k a x o in
      ⊎_elim (λ (z : (plan g).written a.piece ≡ true). rw (number_written g a.piece z) (omega arith))
      (λ (z : (plan g).written a.piece ≡ false). rw (number_unwritten g a.piece z) old) (bool? ((plan g).written a.piece)))
      (λ x.
      let piece_is : a.piece ≡ x.0 = ap (λ (m : MapSector). m.piece) x.4 ∙ member_piece g x.0 in
      let q = ap (λ (m : MapSector). m.number) x.4 ∙ member_number g x.0 in
      let w = number_written g x.0 x.1 in
      rw piece_is (omega arith))
      (signed_cases on (commit_stores s t (plan g) change) (Any g) (kinds g) k a e)

  -- Nothing is lost, and what was written is there.
  pub whole_commit : Settled s.geometry (image' g) (tables' g) (tail' g) (number' g) disk'
  whole_commit =
      record {
        committed = record {
          ground = ground';
          apart = apart_after on (commit_stores s t (plan g) change) (Any g) (kinds g);
          latest = latest';
          unclosed = λ k a e h. let o = above' k a e in absurd (omega arith);
          park = inl (blank_kept on (commit_stores s t (plan g) change) (Any g) (kinds g));
        };
        none_above = above';
      }

  pub whole_blank : image' g 0 ≡ blank
  whole_blank = blank_kept on (commit_stores s t (plan g) change) (Any g) (kinds g)
