-- The plan in the arrays is the plan of the definition.
use Prim.Native.Nat.{ℕ, zero, suc, ◌+◌, ◌-◌, ◌/◌, ◌%◌, ◌^◌, ◌≤◌, ◌<◌}
use mathlib.Core.Path.{◌≡◌, refl, sym, ◌∙◌, ap, fun_ext, subst}
use mathlib.Core.Logic.{⊎_elim}
use mathlib.Core.Bool.{Bool, true, false, cond, not, ◌||◌}
use mathlib.Core.List.{List, [], ◌++◌}
use native.Mathlib.Omega.{arith}
use lib.ListN.{length, get_or, take, drop, replicate, length-replicate, get_or-append, get_or-eq_default}
use lib.Seq.{get_or-append-add, get_or-drop, take_at, take_all, length-take-le}
use lib.Dec.{eqb, ltb}
use borrow.Author.Tests.{lt-ltb, le-ltb, eqb-true}
use Rattle.laws.proofs.Filling.{zeros_get}
use Rattle.state.specs.declared.State.{State}
use Rattle.geometry.specs.declared.Geometry.{Geometry}
use Rattle.geometry.specs.Geometry.{pieces_for, piece_of, used_bytes, geometry_fits}
use Rattle.laws.proofs.Sizes.{fits}
use Rattle.layout.specs.Bounded.{at, list_from, tabled, count_below}
use Rattle.layout.specs.MapSector.{View}
use Rattle.volume.specs.Tables.{bit_at, tables_of}
use Rattle.tracks.specs.Placing.{Choice, least_delay, place_of, skipped_by}
use Rattle.volume.specs.Rules.{base}
use Rattle.power.specs.Power.{made}
use Rattle.volume.specs.Commit.{touches, older_key, listing, branches_for, planned}
use Rattle.laws.proofs.Bounded.{bool?, lt?, clash, tabled_at, tabled_past, length_list_from, any_below_none, count_le}
use Rattle.pieces.specs.Arrays.{flagged, unflagged, change_of, Live, Planning}
use Rattle.plan.specs.Untouched.{Untouched}

-- A copy of the used map in a longer one.
pub copied : (us front marks : List ℕ) (m : ℕ) → marks ≡ replicate m 0 → front ≡ us → bit_at (front ++ drop (length us) marks) ≡ bit_at us
unfolding bit_at
copied us front marks m z e =
    fun_ext (λ k. ap (λ (x : ℕ). eqb (x / 2 ^ (k % 8) % 2) 1) (byte (k / 8)))
  where
    byte : (k : ℕ) → get_or (front ++ drop (length us) marks) k 0 ≡ get_or us k 0
    byte k =
        ap (λ (ys : List ℕ). get_or (ys ++ drop (length us) marks) k 0) e
        ∙ ⊎_elim (λ (h : k < length us). get_or-append us (drop (length us) marks) 0 k h)
        (λ (h : length us ≤ k).
        ap (λ (j : ℕ). get_or (us ++ drop (length us) marks) j 0) (let q : k ≡ length us + (k - length us) = omega arith in q)
        ∙ get_or-append-add us (drop (length us) marks) (k - length us) 0
        ∙ ap (λ (ys : List ℕ). get_or (drop (length us) ys) (k - length us) 0) z
        ∙ get_or-drop (length us) (replicate m 0) (k - length us) 0 ∙ zeros_get m (length us + (k - length us))
        ∙ sym (get_or-eq_default us 0 {n = k} h))
        (lt? k (length us))

-- The listing looks at places and numbers alone.
pub listing_any : (pieces : ℕ) (mp mp' pl nu us us' : List ℕ) (view : View) (remaining : ℕ → Bool) (steps bound : ℕ) (reached : ℕ → Bool)
    → listing pieces (tables_of mp pl nu us) view remaining steps bound reached ≡ listing pieces (tables_of mp' pl nu us') view remaining steps bound reached
unfolding listing older_key
listing_any pieces mp mp' pl nu us us' view remaining zero bound reached = refl
listing_any pieces mp mp' pl nu us us' view remaining (suc steps) bound reached = rw (listing_any pieces mp mp' pl nu us us' view remaining steps _ _) refl

-- A list of which the first 25 are known, by their count.
module _ (bs xs : List ℕ) (r : ℕ) (same : take r bs ≡ take 25 xs) (few : r ≤ 25) (room : length bs ≡ 25) where
  size : length (take 25 xs) ≡ r
  size = sym (ap length same) ∙ length-take-le r bs (omega arith)

  pub folds_alike : ltb 24 r ≡ ltb 24 (length xs)
  folds_alike =
      ⊎_elim (λ (h : 24 < length xs).
      let k = length-take-le 25 xs (omega arith) in
      let z = size in
      lt-ltb 24 r (omega arith) ∙ sym (lt-ltb 24 (length xs) h))
      (λ (h : length xs ≤ 24).
      let k = ap length (take_all 25 xs (omega arith)) in
      let z = size in
      le-ltb 24 r (omega arith) ∙ sym (le-ltb 24 (length xs) h))
      (lt? 24 (length xs))

  pub all_listed : length xs ≤ 24 → take r bs ≡ xs
  all_listed h = same ∙ take_all 25 xs (omega arith)

-- No piece past P is touched.
touches_past : (blocks : List ℕ) (l q : ℕ) → ((i : ℕ) → i < length blocks → at blocks i < l) → pieces_for l ≤ q → touches blocks q ≡ false
unfolding touches
touches_past blocks l q inside h =
    any_below_none (λ i. eqb (piece_of (at blocks i)) q) (length blocks) (λ i k.
    let z = inside i k in
    either (piece_of (at blocks i)) q (let y : piece_of (at blocks i) < q = omega arith in y))
  where
    either : (a b : ℕ) → a < b → eqb a b ≡ false
    either a b k = ⊎_elim (λ (e : eqb a b ≡ true). let z = eqb-true a b e in absurd (omega arith)) (λ (e : eqb a b ≡ false). e) (bool? (eqb a b))

module _ (s : State) (pl nu us blocks : List ℕ) (view : View) (head count : ℕ) (touched written bs taken : List ℕ) (listed first members pieces : ℕ)
    (inside : (i : ℕ) → i < length blocks → at blocks i < s.geometry.l) (pieces-is : pieces ≡ pieces_for s.geometry.l)
    (lens : length nu ≡ pieces_for s.geometry.l) (untouched : Untouched s pl nu view blocks touched bs listed)
    (first-is : first ≡ cond (ltb 24 listed) 0 listed)
    (written_is : flagged written ≡ cond (ltb 24 listed) (λ q. ltb q pieces || flagged touched q) (flagged touched)) where
  abbrev whole : List ℕ
  whole = branches_for s.geometry.l (tables_of [] pl nu us) view s.number blocks

  same_list : take listed bs ≡ take 25 whole
  unfolding branches_for unflagged
  same_list =
      untouched.listing_is
      ∙ ap (take 25)
      (listing_any (length nu) [] [] pl nu [] us view (unflagged (length nu) touched) (length nu) (suc s.number) (λ _. false)
      ∙ ap (λ (k : ℕ). listing k (tables_of [] pl nu us) view (tabled false k (λ q. not (flagged touched q))) k (suc s.number) (λ _. false)) lens
      ∙ ap (λ (f : ℕ → Bool). listing (pieces_for s.geometry.l) (tables_of [] pl nu us) view (tabled false (pieces_for s.geometry.l) (λ q. not (f q))) (pieces_for s.geometry.l) (suc s.number) (λ _. false))
      untouched.touching)

  flags_after : (fold : Bool) → flagged written ≡ cond fold (λ q. ltb q (pieces_for s.geometry.l) || flagged touched q) (flagged touched)
      → flagged written ≡ tabled false (pieces_for s.geometry.l) (λ q. fold || touches blocks q)
  flags_after true e =
      e
      ∙ fun_ext (λ q.
      ⊎_elim (λ (h : q < pieces_for s.geometry.l). rw (lt-ltb q (pieces_for s.geometry.l) h) (sym (tabled_at false (pieces_for s.geometry.l) (λ q. true) q h)))
      (λ (h : pieces_for s.geometry.l ≤ q).
      rw (le-ltb q (pieces_for s.geometry.l) h)
      (ap (λ (f : ℕ → Bool). f q) untouched.touching ∙ touches_past blocks s.geometry.l q inside h ∙ sym (tabled_past false (pieces_for s.geometry.l) (λ q. true) q h)))
      (lt? q (pieces_for s.geometry.l)))
  flags_after false e =
      e ∙ untouched.touching
      ∙ fun_ext (λ q.
      ⊎_elim (λ (h : q < pieces_for s.geometry.l). sym (tabled_at false (pieces_for s.geometry.l) (λ q. touches blocks q) q h))
      (λ (h : pieces_for s.geometry.l ≤ q). touches_past blocks s.geometry.l q inside h ∙ sym (tabled_past false (pieces_for s.geometry.l) (λ q. touches blocks q) q h))
      (lt? q (pieces_for s.geometry.l)))

  branches_after : (fold : Bool) → fold ≡ ltb 24 (length whole) → first ≡ cond fold 0 listed → take first bs ≡ cond fold [] whole
  branches_after true e f = ap (λ (k : ℕ). take k bs) f
  branches_after false e f =
      ap (λ (k : ℕ). take k bs) f
      ∙ all_listed bs whole listed same_list untouched.most untouched.room
      (⊎_elim (λ (h : 24 < length whole). clash (ltb 24 (length whole)) (lt-ltb 24 (length whole) h) (sym e)) (λ (h : length whole ≤ 24). h)
      (lt? 24 (length whole)))

  few_after : (fold : Bool) → fold ≡ ltb 24 listed → first ≡ cond fold 0 listed → first ≤ 24
  few_after true e f = omega arith
  few_after false e f =
      ⊎_elim (λ (h : 24 < listed). clash (ltb 24 listed) (lt-ltb 24 listed h) (sym e)) (λ (h : listed ≤ 24). omega arith) (lt? 24 listed)

  pub planning : (skipped allowance : ℕ) → members ≡ count_below (flagged written) pieces
      → take (count + members) taken ≡ list_from (place_of (least_delay s.drive) s.geometry.n (bit_at us) head) 0 (count + members)
      → skipped ≡ skipped_by (least_delay s.drive) s.geometry.n (bit_at us) head (made (count + members) allowance)
      → Planning (planned base s (tables_of [] pl nu us) view head (change_of blocks [] count)) first members bs written count taken skipped allowance
  unfolding planned
  planning skipped allowance m t k =
      let alike = folds_alike bs whole listed same_list untouched.most untouched.room in
      let flags = flags_after (ltb 24 (length whole))
      (written_is ∙ ap (λ (b : Bool). cond b (λ q. ltb q pieces || flagged touched q) (flagged touched)) alike
      ∙ ap (λ (k : ℕ). cond (ltb 24 (length whole)) (λ q. ltb q k || flagged touched q) (flagged touched)) pieces-is) in
      let counted : members ≡ count_below (tabled false (pieces_for s.geometry.l) (λ q. ltb 24 (length whole) || touches blocks q)) (pieces_for s.geometry.l)
      = m ∙ ap (count_below (flagged written)) pieces-is ∙ ap (λ (f : ℕ → Bool). count_below f (pieces_for s.geometry.l)) flags in
      record {
        members_are = counted;
        branches_are = branches_after (ltb 24 (length whole)) refl (first-is ∙ ap (λ (b : Bool). cond b 0 listed) alike);
        few = few_after (ltb 24 listed) refl first-is;
        written_are = flags;
        taken_are = t ∙ ap (λ (k : ℕ). list_from (place_of (least_delay s.drive) s.geometry.n (bit_at us) head) 0 (count + k)) counted;
        skipped_are = k;
      }

pub counted_few : (f : ℕ → Bool) (pieces members most : ℕ) → members ≡ count_below f pieces → pieces ≤ most → members ≤ most
counted_few f pieces members most e m = let h = count_le f pieces in omega arith

-- The flags are as many as pieces there can be, and blocks below L have one.
pub flags_room : (n : ℕ) (written : List ℕ) → written ≡ replicate 256 0 → n ≡ length written → n ≡ 256
flags_room n written w e = e ∙ ap length w ∙ length-replicate {A = ℕ} 256 0

pub touchable : (g : Geometry) (written blocks : List ℕ) → geometry_fits g ≡ true → ((i : ℕ) → i < length blocks → at blocks i < g.l)
    → written ≡ replicate 256 0
    → (written ≡ replicate (length written) 0) × ((i : ℕ) → i < length blocks → piece_of (at blocks i) < length written)
touchable g written blocks f inside w =
    let most = (fits g f).most in
    let len = flags_room (length written) written w refl in
    (w ∙ ap (λ (x : ℕ). replicate x 0) (sym len), λ i h. let z = inside i h in let q : piece_of (at blocks i) < length written = omega arith in q)

pub live_for : (g : Geometry) (image : ℕ → List ℕ) (place : ℕ → ℕ) (n m : ℕ) → m ≡ n → Live g image place n → Live g image place m
live_for g image place n m e live = subst (Live g image place) (sym e) live

-- The places searched in a copy of the used map come first, and the same sectors are skipped for them.
pub taken_first : (choice : Choice) (n head count : ℕ) (bits bits' : ℕ → Bool) (taken taken' : List ℕ)
    → taken' ≡ list_from (place_of choice n bits' head) 0 count ++ drop count taken → bits' ≡ bits → take count taken' ≡ list_from (place_of choice n bits head) 0 count
taken_first choice n head count bits bits' taken taken' e f =
    let from = list_from (place_of choice n bits head) 0 count in
    ap (take count) (e ∙ ap (λ (g : ℕ → Bool). list_from (place_of choice n g head) 0 count ++ drop count taken) f)
    ∙ take_at from (drop count taken) count (length_list_from (place_of choice n bits head) 0 count)

pub skipped_first : (choice : Choice) (n head k skipped : ℕ) (bits bits' : ℕ → Bool) → skipped ≡ skipped_by choice n bits' head k → bits' ≡ bits → skipped ≡ skipped_by choice n bits head k
skipped_first choice n head k skipped bits bits' e f = e ∙ ap (λ (g : ℕ → Bool). skipped_by choice n g head k) f

-- What a geometry leaves room for: 256 pieces, and 8,192 bytes of used bits.
module _ (g : Geometry) (f : geometry_fits g ≡ true) where
  pub pieces_few : (n : ℕ) → n ≡ pieces_for g.l → n ≤ 256
  pieces_few n e = let most = (fits g f).most in omega arith

  pub pieces_room : (n room : ℕ) → n ≡ pieces_for g.l → room ≡ 256 → n ≤ room
  pieces_room n room e h = let few = pieces_few n e in omega arith

  pub used_room : (n room : ℕ) → n ≡ used_bytes g.n → room ≡ 8192 → n ≤ room
  used_room n room e h = let most = (fits g f).sectors in omega arith

  pub few_sectors : g.n ≤ 65536
  few_sectors = (fits g f).sectors
