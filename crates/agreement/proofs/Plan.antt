-- What any planned commit gives: which pieces it writes, and where its sectors go.
use Prim.Native.Nat.{ℕ, ◌+◌, ◌^◌, ◌≤◌, ◌<◌}
use mathlib.Core.Path.{◌≡◌, refl, sym, ◌∙◌, ap, subst}
use mathlib.Core.Logic.{⊎_elim}
use mathlib.Core.Bool.{true, false, ◌||◌}
use mathlib.Core.List.{List}
use native.Mathlib.Omega.{arith}
use lib.ListN.{length}
use lib.Dec.{eqb}
use borrow.Author.Tests.{eq-eqb}
use Rattle.state.specs.declared.State.{State}
use Rattle.geometry.specs.Geometry.{pieces_for, piece_of, drive_fits}
use Rattle.layout.specs.Bounded.{at, count_below, elem}
use Rattle.layout.specs.Entry.{is_empty, sector_of}
use Rattle.volume.specs.Tables.{Tables, named_by, used_by, free_sectors}
use Rattle.tracks.specs.Placing.{Choice, place_of}
use Rattle.volume.specs.Rules.{Rules}
use Rattle.volume.specs.Commit.{Change, Plan, touches, branches_for, planned, rank, member_place}
use Rattle.volume.specs.Calls.{view_of}
use Rattle.laws.proofs.Bounded.{lt?, clash, or_r, tabled_at, tabled_past, list_from_at, any_below_is, count_le, count_before}
use Rattle.laws.proofs.Names.{Name, Named, sector_named, named_elem}
use Rattle.laws.proofs.Placing.{Chooses, Choosing, place_below, place_free, place_low, place_apart}
use Rattle.laws.proofs.Sizes.{Fits}
use Rattle.agreement.proofs.Agreed.{Agreed, used_below}

-- What a commit starts from: tables that agree with the image, on a drive that holds the volume's sectors, a change that names
-- blocks once, stores `data_sectors` blocks and empties the others, room, and numbers enough.
pub record Given (rules : Rules) (s : State) (t : Tables) (image : ℕ → List ℕ) (head : ℕ) (change : Change) : Type 0 where
  pub fit : Fits s.geometry
  pub drive : drive_fits s.geometry.n s.drive ≡ true
  pub agreed : Agreed s.geometry image t s.tail s.number
  pub inside : head < s.geometry.n
  pub some : 1 ≤ length change.blocks
  pub blocks : (i : ℕ) → i < length change.blocks → at change.blocks i < s.geometry.l
  pub apart : (i j : ℕ) → i < j → j < length change.blocks → at change.blocks i ≡ at change.blocks j → ⊥
  pub few : change.data_sectors ≤ length change.blocks
  pub full : (i k : ℕ) → i < change.data_sectors → 1 ≤ k → k < 2 ^ 31 → is_empty (change.entry i k) ≡ false
  pub sector : (i k : ℕ) → i < change.data_sectors → 1 ≤ k → k < 2 ^ 31 → sector_of (change.entry i k) ≡ k
  pub word : (i k : ℕ) → i < change.data_sectors → 1 ≤ k → k < 2 ^ 31 → change.entry i k < 2 ^ 32
  pub gone : (i k : ℕ) → change.data_sectors ≤ i → i < length change.blocks → change.entry i k ≡ 0
  pub room : change.data_sectors + pieces_for s.geometry.l ≤ free_sectors s.geometry.n t.is_used
  pub numbers : s.number ≤ rules.greatest

-- One such commit.
pub record Start : Type 0 where
  pub rules : Rules
  pub law : Choosing rules
  pub s : State
  pub t : Tables
  pub image : ℕ → List ℕ
  pub head : ℕ
  pub change : Change
  pub given : Given rules s t image head change

abbrev pub started : {rules : Rules} {s : State} {t : Tables} {image : ℕ → List ℕ} {head : ℕ} {change : Change} → Choosing rules
    → Given rules s t image head change → Start
started {rules} {s} {t} {image} {head} {change} law given =
    record { rules = rules; law = law; s = s; t = t; image = image; head = head; change = change; given = given }

module _ (g : Start) where
  open g use {rules, law, s, t, image, head, change, given}

  unfoldable pub plan : Plan
  plan = planned rules s t (view_of s.geometry image) head change

  unfoldable pub listed : List ℕ
  listed = branches_for s.geometry.l t (view_of s.geometry image) s.number change.blocks

  pub members_is : plan.members ≡ count_below plan.written (pieces_for s.geometry.l)
  unfolding plan planned
  members_is = refl

  pub written_past : (q : ℕ) → pieces_for s.geometry.l ≤ q → plan.written q ≡ false
  unfolding plan planned
  written_past q h = tabled_past false (pieces_for s.geometry.l) (λ q. plan.fold || touches change.blocks q) q h

  pub written_is : (q : ℕ) → q < pieces_for s.geometry.l → plan.written q ≡ (plan.fold || touches change.blocks q)
  unfolding plan planned
  written_is q h = tabled_at false (pieces_for s.geometry.l) (λ q. plan.fold || touches change.blocks q) q h

  pub written_below : (q : ℕ) → plan.written q ≡ true → q < pieces_for s.geometry.l
  written_below q e =
      ⊎_elim (λ (z : q < pieces_for s.geometry.l). z) (λ (z : pieces_for s.geometry.l ≤ q). clash (plan.written q) e (written_past q z))
      (lt? q (pieces_for s.geometry.l))

  -- The piece of a named block is written.
  pub touched_written : (i : ℕ) → i < length change.blocks → plan.written (piece_of (at change.blocks i)) ≡ true
  unfolding touches
  touched_written i h =
      let b = given.blocks i h in
      written_is (piece_of (at change.blocks i)) (omega arith)
      ∙ or_r plan.fold (touches change.blocks (piece_of (at change.blocks i)))
      (any_below_is (λ j. eqb (piece_of (at change.blocks j)) (piece_of (at change.blocks i))) (length change.blocks) i h
      (eq-eqb (piece_of (at change.blocks i)) (piece_of (at change.blocks i)) refl))

  -- A piece that is not written has none.
  pub unwritten : (q : ℕ) → plan.written q ≡ false → (i : ℕ) → i < length change.blocks → piece_of (at change.blocks i) ≡ q → ⊥
  unwritten q e i h z = clash (plan.written q) (subst (λ (x : ℕ). plan.written x ≡ true) z (touched_written i h)) e

  pub members_some : 0 < plan.members
  members_some =
      let b = given.blocks 0 given.some in
      let x = count_before plan.written (piece_of (at change.blocks 0)) (pieces_for s.geometry.l) (omega arith) (touched_written 0 given.some) in
      let m = members_is in
      omega arith

  pub members_few : plan.members ≤ pieces_for s.geometry.l
  members_few = let m = members_is in let c = count_le plan.written (pieces_for s.geometry.l) in omega arith

  pub rank_below : (q : ℕ) → plan.written q ≡ true → rank plan q < plan.members
  unfolding rank
  rank_below q e =
      let x = count_before plan.written q (pieces_for s.geometry.l) (written_below q e) e in
      let m = members_is in
      omega arith

  pub rank_once : (p q : ℕ) → plan.written p ≡ true → plan.written q ≡ true → rank plan p ≡ rank plan q → p ≡ q
  unfolding rank
  rank_once p q e f z =
      ⊎_elim (λ (y : p < q). let x = count_before plan.written p q y e in absurd (omega arith))
      (λ (y : q ≤ p).
      ⊎_elim (λ (w : q < p). let x = count_before plan.written q p w f in absurd (omega arith)) (λ (w : p ≤ q). omega arith) (lt? q p))
      (lt? p q)

  -- Places.
  enough : change.data_sectors + plan.members ≤ free_sectors s.geometry.n t.is_used
  enough = let r = given.room in let m = members_few in omega arith

  used0 : t.is_used 0 ≡ true
  unfolding used_by
  used0 = used_below given.agreed.sound 0 (let h = given.inside in omega arith) ∙ refl

  abbrev choice : Choice
  choice = rules.placing s.drive

  chooses : Chooses s.geometry.n choice
  chooses = law.places s.geometry.n s.drive given.drive

  pub place_is : (j : ℕ) → j < change.data_sectors + plan.members → at plan.places j ≡ place_of choice s.geometry.n t.is_used head j
  unfolding plan planned
  place_is j h =
      list_from_at (place_of choice s.geometry.n t.is_used head) 0 (change.data_sectors + plan.members) j 0 h
      ∙ ap (place_of choice s.geometry.n t.is_used head) (omega arith)

  pub at_below : (j : ℕ) → j < change.data_sectors + plan.members → at plan.places j < s.geometry.n
  at_below j h =
      rw (place_is j h)
      (place_below choice s.geometry.n chooses t.is_used used0 head given.inside (change.data_sectors + plan.members) enough j h)

  pub at_free : (j : ℕ) → j < change.data_sectors + plan.members → t.is_used (at plan.places j) ≡ false
  at_free j h =
      rw (place_is j h)
      (place_free choice s.geometry.n chooses t.is_used used0 head given.inside (change.data_sectors + plan.members) enough j h)

  pub at_low : (j : ℕ) → j < change.data_sectors + plan.members → 1 ≤ at plan.places j
  at_low j h =
      rw (place_is j h)
      (place_low choice s.geometry.n chooses t.is_used used0 head given.inside (change.data_sectors + plan.members) enough j h)

  pub at_once : (i j : ℕ) → i < change.data_sectors + plan.members → j < change.data_sectors + plan.members
      → at plan.places i ≡ at plan.places j → i ≡ j
  at_once i j g h e =
      let q = sym (place_is i g) ∙ e ∙ place_is j h in
      ⊎_elim (λ (y : i < j).
      absurd (place_apart choice s.geometry.n chooses t.is_used used0 head given.inside (change.data_sectors + plan.members) enough i j y h q))
      (λ (y : j ≤ i).
      ⊎_elim (λ (w : j < i).
      absurd (place_apart choice s.geometry.n chooses t.is_used used0 head given.inside (change.data_sectors + plan.members) enough j i w g (sym q)))
      (λ (w : i ≤ j). omega arith) (lt? j i))
      (lt? i j)

  pub at_word : (j : ℕ) → j < change.data_sectors + plan.members → at plan.places j < 2 ^ 31
  at_word j h = let b = at_below j h in let f = given.fit.sectors in omega arith

  -- A named sector is none of them.
  pub named_used : (x : Name) → Named s.geometry.l t.entry t.place x → t.is_used (sector_named s.geometry.l t.entry t.place x) ≡ true
  unfolding used_by
  named_used x h =
      let k = sector_named s.geometry.l t.entry t.place x in
      let below : k < s.geometry.n = (let a = given.agreed.sound.high x h in let b = given.inside in omega arith) in
      used_below given.agreed.sound k below
      ∙ or_r (eqb k 0) (elem k (named_by s.geometry.l t.entry t.place)) (named_elem s.geometry.l t.entry t.place x h)

  pub named_other : (x : Name) → Named s.geometry.l t.entry t.place x → (j : ℕ) → j < change.data_sectors + plan.members
      → at plan.places j ≡ sector_named s.geometry.l t.entry t.place x → ⊥
  named_other x h j b e =
      clash (t.is_used (sector_named s.geometry.l t.entry t.place x)) (named_used x h)
      (subst (λ (k : ℕ). t.is_used k ≡ false) e (at_free j b))

  pub member_place_lem : (j : ℕ) → member_place plan j ≡ at plan.places (change.data_sectors + j)
  unfolding member_place plan planned
  member_place_lem j = refl
