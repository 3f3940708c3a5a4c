-- Names are judged and marked one after the other: so far all that were looked at lie in 1 to n - 1; the bits are sector 0 and the
-- names so far.
use Rattle.std.proofs.Common.{◌≡◌, ℕ, zero, suc, ◌+◌, ◌-◌, ◌*◌, ◌/◌, ◌%◌, ◌^◌, ◌<◌, ◌≤◌, Bool, true, false, cond, not, ◌&&◌, ◌||◌, eqb, leb, List, [], ◌∷◌, length, replicate, sym, refl, ap, ◌∙◌, ap₂, ⊎_elim, true≢false, add-one, arith, eq-eqb, ne_eqb, eqb-true, leb-true}
use mathlib.Core.Path.{fun_ext}
use Rattle.geometry.specs.declared.Geometry.{Geometry}
use Rattle.geometry.specs.Geometry.{within, pieces_for}
use Rattle.layout.specs.Bounded.{at, all_below, count_below, all, elem, always, gathered, updated}
use Rattle.volume.specs.Tables.{bit_at, named_by, used_by}
use Rattle.layout.specs.Entry.{is_empty, sector_of}
use Rattle.names.specs.Marked.{with_entries, marked}
use Rattle.laws.proofs.Lists.{within_below}
use Rattle.laws.proofs.Bounded.{bool?, eq?, and_l, and_r, not_of, all_elem, all_below_at, count_hit, count_miss, count_always, count_same, gathered_hit, gathered_miss}

pub not_false : (b : Bool) → not b ≡ false → b ≡ true
not_false true e = refl
not_false false e = absurd (true≢false e)

and_false : (a : Bool) → (a && false) ≡ false
and_false true = refl
and_false false = refl

and_true : (a : Bool) → (a && true) ≡ a
and_true true = refl
and_true false = refl

pub counted_none : (test : ℕ → Bool) → 0 ≡ count_below test 0
unfolding count_below
counted_none test = refl

pub counted_hit : (test : ℕ → Bool) (i count after : ℕ) → test i ≡ true → count ≡ count_below test i → after ≡ count + 1 → after ≡ count_below test (i + 1)
counted_hit test i count after z e a = let one = count_hit test i z in rw add-one (omega arith)

pub counted_miss : (test : ℕ → Bool) (i count after : ℕ) → test i ≡ false → count ≡ count_below test i → after ≡ count → after ≡ count_below test (i + 1)
counted_miss test i count after z e a = let none = count_miss test i z in rw add-one (omega arith)

-- Two tests that never both pass: together they pass so many exactly where each number passes one of them.
module _ (f e : ℕ → Bool) (apart : (k : ℕ) → e k ≡ true → f k ≡ false) where
  both_few : (m : ℕ) → count_below f m + count_below e m ≤ m
  unfolding count_below
  both_few zero = omega arith
  both_few (suc m) =
      let before = both_few m in
      ⊎_elim (λ (z : e m ≡ true).
      let one = count_hit e m z in
      let none = count_miss f m (apart m z) in
      omega arith)
      (λ (z : e m ≡ false).
      let none = count_miss e m z in
      ⊎_elim (λ (y : f m ≡ true). let one = count_hit f m y in omega arith) (λ (y : f m ≡ false). let miss = count_miss f m y in omega arith) (bool? (f m)))
      (bool? (e m))

  abbrev Total : ℕ → ℕ
  Total m = count_below f m + count_below e m

  pub both_counted : (m : ℕ) → eqb (Total m) m ≡ all_below (λ k. e k || f k) m
  unfolding count_below all_below
  both_counted zero = refl
  both_counted (suc m) =
      let before = both_counted m in
      let few = both_few m in
      ⊎_elim (λ (z : e m ≡ true).
      let one = count_hit e m z in
      let none = count_miss f m (apart m z) in
      same m (let t : Total (suc m) ≡ suc (Total m) = omega arith in t) ∙ before ∙ sym (ap (λ (b : Bool). all_below (λ k. e k || f k) m && (b || f m)) z ∙ and_true (all_below (λ k. e k || f k) m)))
      (λ (z : e m ≡ false).
      let none = count_miss e m z in
      ⊎_elim (λ (y : f m ≡ true).
      let one = count_hit f m y in
      same m (let t : Total (suc m) ≡ suc (Total m) = omega arith in t) ∙ before
      ∙ sym (ap₂ (λ (a b : Bool). all_below (λ k. e k || f k) m && (a || b)) z y ∙ and_true (all_below (λ k. e k || f k) m)))
      (λ (y : f m ≡ false).
      let miss = count_miss f m y in
      ne_eqb (Total (suc m)) (suc m) (λ (t : Total (suc m) ≡ suc m). omega arith)
      ∙ sym (ap₂ (λ (a b : Bool). all_below (λ k. e k || f k) m && (a || b)) z y ∙ and_false (all_below (λ k. e k || f k) m)))
      (bool? (f m)))
      (bool? (e m))
    where
      same : (m : ℕ) → Total (suc m) ≡ suc (Total m) → eqb (Total (suc m)) (suc m) ≡ eqb (Total m) m
      same m t =
          ⊎_elim (λ (y : Total m ≡ m).
          eq-eqb (Total (suc m)) (suc m) (t ∙ ap suc y) ∙ sym (eq-eqb (Total m) m y))
          (λ (d : Total m ≡ m → ⊥).
          ne_eqb (Total (suc m)) (suc m) (λ (y : Total (suc m) ≡ suc m). d (let w : Total m ≡ m = omega arith in w)) ∙ sym (ne_eqb (Total m) m d)) (eq? (Total m) m)

count_never : (m : ℕ) → count_below (λ _. false) m ≡ 0
unfolding count_below
count_never zero = refl
count_never (suc m) = count_never m

-- One test alone.
pub every_counted : (f : ℕ → Bool) (m : ℕ) → eqb (count_below f m) m ≡ all_below f m
every_counted f m =
    let none = count_never m in
    let sum : count_below f m + count_below (λ _. false) m ≡ count_below f m = omega arith in
    ap (λ (x : ℕ). eqb x m) (sym sum) ∙ both_counted f (λ _. false) (λ k z. absurd (true≢false (sym z))) m

-- Names that are gathered, judged where they come from and not in the list.
regroup : (a b c : Bool) → (b && (a && c)) ≡ ((a && b) && c)
regroup true true c = refl
regroup true false c = refl
regroup false true c = refl
regroup false false c = refl

module _ (check : ℕ → Bool) (test : ℕ → Bool) (value : ℕ → ℕ) (others : List ℕ) (u : ℕ → Bool) (says : (i : ℕ) → (not (test i) || check (value i)) ≡ u i) where
  pub gathered_judged : (m : ℕ) → all check (gathered test value others m) ≡ (all_below u m && all check others)
  unfolding gathered all_below all
  gathered_judged zero = refl
  gathered_judged (suc m) =
      let before = gathered_judged m in
      let step : all check (gathered test value others (suc m)) ≡ (u m && all check (gathered test value others m)) =
      ⊎_elim (λ (z : test m ≡ true).
      ap (all check) (gathered_hit test value others m z)
      ∙ ap (λ (b : Bool). b && all check (gathered test value others m)) (ap (λ (a : Bool). not a || check (value m)) (sym z) ∙ says m))
      (λ (z : test m ≡ false).
      ap (all check) (gathered_miss test value others m z)
      ∙ ap (λ (b : Bool). b && all check (gathered test value others m)) (ap (λ (a : Bool). not a || check (value m)) (sym z) ∙ says m)) (bool? (test m)) in
      step ∙ ap (λ (b : Bool). u m && b) before ∙ regroup (all_below u m) (u m) (all check others)

pub gathered_length : (test : ℕ → Bool) (value : ℕ → ℕ) (others : List ℕ) (m : ℕ) → length (gathered test value others m) ≡ count_below test m + length others
unfolding gathered count_below
gathered_length test value others zero = omega arith
gathered_length test value others (suc m) =
    let before = gathered_length test value others m in
    ⊎_elim (λ (z : test m ≡ true).
    let one = count_hit test m z in
    let longer = ap length (gathered_hit test value others m z) in
    omega arith)
    (λ (z : test m ≡ false).
    let none = count_miss test m z in
    let same = ap length (gathered_miss test value others m z) in
    omega arith) (bool? (test m))

not_not : (a : Bool) → not (not a) ≡ a
not_not true = refl
not_not false = refl

-- All that tables name: the live places, then the sectors of the entries.
module _ (g : Geometry) (entry place : ℕ → ℕ) where
  abbrev Named : List ℕ
  Named = named_by g.l entry place

  abbrev PlacesInside : ℕ → Bool
  PlacesInside m = all_below (λ q. within 1 (g.n - 1) (place q)) m

  abbrev EntriesInside : ℕ → Bool
  EntriesInside m = all_below (λ b. is_empty (entry b) || within 1 (g.n - 1) (sector_of (entry b))) m

  named_judged : all (within 1 (g.n - 1)) Named ≡ (EntriesInside g.l && PlacesInside (pieces_for g.l))
  unfolding named_by all
  named_judged =
      gathered_judged (within 1 (g.n - 1)) (λ b. not (is_empty (entry b))) (λ b. sector_of (entry b)) (gathered always place [] (pieces_for g.l))
      (λ b. is_empty (entry b) || within 1 (g.n - 1) (sector_of (entry b)))
      (λ b. ap (λ (x : Bool). x || within 1 (g.n - 1) (sector_of (entry b))) (not_not (is_empty (entry b)))) g.l
      ∙ ap (λ (b : Bool). EntriesInside g.l && b)
      (gathered_judged (within 1 (g.n - 1)) always place [] (λ q. within 1 (g.n - 1) (place q)) (λ q. refl) (pieces_for g.l)
      ∙ and_true (PlacesInside (pieces_for g.l)))

  pub named_length : length Named ≡ count_below (λ b. not (is_empty (entry b))) g.l + pieces_for g.l
  unfolding named_by
  named_length =
      let entries = gathered_length (λ b. not (is_empty (entry b))) (λ b. sector_of (entry b)) (gathered always place [] (pieces_for g.l)) g.l in
      let places = gathered_length always place [] (pieces_for g.l) in
      let every = count_always (pieces_for g.l) in
      omega arith

  abbrev EntryInside : ℕ → Bool
  EntryInside b = within 1 (g.n - 1) (sector_of (entry b))

  -- An empty entry's sector is 0.
  empty_outside : (b : ℕ) → is_empty (entry b) ≡ true → EntryInside b ≡ false
  empty_outside b e =
      let none = eqb-true (entry b) 0 e in
      let least : sector_of (entry b) ≡ 0 = ap sector_of none in
      within_below 1 (g.n - 1) (sector_of (entry b)) (omega arith)

  module _ (p l : ℕ) (ps : p ≡ pieces_for g.l) (ls : l ≡ g.l) where
    -- The code's tests, by what it counted.
    module _ (r : ℕ) (f : r ≡ count_below (λ q. within 1 (g.n - 1) (place q)) p) where
      places_told : eqb r p ≡ PlacesInside (pieces_for g.l)
      places_told =
          ap (λ (x : ℕ). eqb x p) f ∙ every_counted (λ q. within 1 (g.n - 1) (place q)) p ∙ ap PlacesInside ps

      pub places_outside : (r ≡ p → ⊥) → false ≡ all (within 1 (g.n - 1)) Named
      places_outside d =
          sym (named_judged ∙ ap (λ (b : Bool). EntriesInside g.l && b) (sym places_told ∙ ne_eqb r p d) ∙ and_false (EntriesInside g.l))

      pub all_judged : r ≡ p → (named empty : ℕ) → named ≡ count_below EntryInside l → empty ≡ count_below (λ b. is_empty (entry b)) l
          → eqb (named + empty) l ≡ all (within 1 (g.n - 1)) Named
      all_judged same named empty n e =
          ap₂ (λ (x y : ℕ). eqb (x + y) l) n e ∙ both_counted EntryInside (λ b. is_empty (entry b)) empty_outside l ∙ ap EntriesInside ls
          ∙ sym (named_judged ∙ ap (λ (b : Bool). EntriesInside g.l && b) (sym places_told ∙ eq-eqb r p same) ∙ and_true (EntriesInside g.l))

    -- Where all lie inside, each is below n, as marking needs it.
    module _ (inside : all (within 1 (g.n - 1)) Named ≡ true) where
      places_so : PlacesInside p ≡ true
      places_so = ap PlacesInside ps ∙ and_r (EntriesInside g.l) (PlacesInside (pieces_for g.l)) (sym named_judged ∙ inside)

      entries_so : EntriesInside l ≡ true
      entries_so = ap EntriesInside ls ∙ and_l (EntriesInside g.l) (PlacesInside (pieces_for g.l)) (sym named_judged ∙ inside)

      pub place_below : 1 ≤ g.n → (q : ℕ) → q < p → place q < g.n
      place_below some q b =
          let w = all_below_at (λ q. within 1 (g.n - 1) (place q)) p places_so q b in
          let top = leb-true (place q) (g.n - 1) (and_r (leb 1 (place q)) (leb (place q) (g.n - 1)) w) in
          omega arith

      entry_told : (b : ℕ) → b < l → not (is_empty (entry b)) ≡ EntryInside b
      entry_told b c =
          let w = all_below_at (λ b. is_empty (entry b) || EntryInside b) l entries_so b c in
          ⊎_elim (λ (z : is_empty (entry b) ≡ true). ap not z ∙ sym (empty_outside b z))
          (λ (z : is_empty (entry b) ≡ false). ap not z ∙ sym (sym (ap (λ (x : Bool). x || EntryInside b) z) ∙ w)) (bool? (is_empty (entry b)))

      pub entry_below : 1 ≤ g.n → (b : ℕ) → b < l → sector_of (entry b) < g.n
      entry_below some b c =
          ⊎_elim (λ (z : is_empty (entry b) ≡ true).
          let none = eqb-true (entry b) 0 z in
          let least : sector_of (entry b) ≡ 0 = ap sector_of none in
          omega arith)
          (λ (z : is_empty (entry b) ≡ false).
          let t = sym (entry_told b c) ∙ ap not z in
          let top = leb-true (sector_of (entry b)) (g.n - 1) (and_r (leb 1 (sector_of (entry b))) (leb (sector_of (entry b)) (g.n - 1)) t) in
          omega arith) (bool? (is_empty (entry b)))

      named_counted : (named : ℕ) → named ≡ count_below EntryInside l → p + named ≡ length Named
      named_counted named n =
          let total = named_length in
          let same = n ∙ sym (count_same (λ b. not (is_empty (entry b))) EntryInside l entry_told) ∙ ap (count_below (λ b. not (is_empty (entry b)))) ls in
          omega arith

    -- What is told of the names.
    pub told : 1 ≤ g.n → all (within 1 (g.n - 1)) Named ≡ true → (named : ℕ) → named ≡ count_below EntryInside l
        → (p + named ≡ length Named) × ((q : ℕ) → q < p → place q < g.n) × ((b : ℕ) → b < l → sector_of (entry b) < g.n)
    told some inside named n = (named_counted inside named n, place_below inside some, entry_below inside some)

    pub named_bits : (bits : ℕ → Bool) → bits ≡ used_by (with_entries entry l (gathered always place [] p)) → bits ≡ used_by Named
    unfolding named_by
    named_bits bits marks = marks ∙ ap₂ (λ (x y : ℕ). used_by (with_entries entry x (gathered always place [] y))) ls ps

-- The bits with one more name.
swap : (a b c : Bool) → cond a true (b || c) ≡ (b || (a || c))
swap true true c = refl
swap true false c = refl
swap false true c = refl
swap false false c = refl

again : (a b : Bool) → cond a true (a || b) ≡ (a || b)
again true b = refl
again false b = refl

marked_more : (named : List ℕ) (bits after : ℕ → Bool) (k : ℕ) → bits ≡ used_by named → after ≡ updated bits k true → after ≡ used_by (k ∷ named)
unfolding used_by elem
marked_more named bits after k m u =
    u ∙ fun_ext (λ j. ap (λ (f : ℕ → Bool). cond (eqb j k) true (f j)) m ∙ swap (eqb j k) (eqb j 0) (elem j named))

-- Sector 0 is marked at all times.
marked_0 : (named : List ℕ) (bits after : ℕ → Bool) (k : ℕ) → k ≡ 0 → bits ≡ used_by named → after ≡ updated bits k true → after ≡ used_by named
unfolding used_by
marked_0 named bits after k e m u =
    u ∙ fun_ext (λ j.
    ap (λ (f : ℕ → Bool). cond (eqb j k) true (f j)) m
    ∙ ap (λ (x : ℕ). cond (eqb j x) true (eqb j 0 || elem j named)) e ∙ again (eqb j 0) (elem j named))

pub places_start : (place : ℕ → ℕ) (bits : ℕ → Bool) → bits ≡ used_by [] → bits ≡ used_by (gathered always place [] 0)
unfolding gathered
places_start place bits e = e

pub place_marked : (place : ℕ → ℕ) (i : ℕ) (bits after : ℕ → Bool) → bits ≡ used_by (gathered always place [] i) → after ≡ updated bits (place i) true
    → after ≡ used_by (gathered always place [] (i + 1))
place_marked place i bits after m u =
    rw add-one (marked_more (gathered always place [] i) bits after (place i) m u ∙ ap used_by (sym (gathered_hit always place [] i refl)))

pub entries_start : (entry : ℕ → ℕ) (others : List ℕ) (bits : ℕ → Bool) → bits ≡ used_by others → bits ≡ used_by (with_entries entry 0 others)
unfolding gathered
entries_start entry others bits e = e

pub entry_marked : (entry : ℕ → ℕ) (others : List ℕ) (i k : ℕ) (bits after : ℕ → Bool) → k ≡ sector_of (entry i)
    → bits ≡ used_by (with_entries entry i others) → after ≡ updated bits k true → after ≡ used_by (with_entries entry (i + 1) others)
entry_marked entry others i k bits after s m u =
    let taken : ℕ → Bool = λ b. not (is_empty (entry b)) in
    let sector : ℕ → ℕ = λ b. sector_of (entry b) in
    rw add-one
    (⊎_elim (λ (z : is_empty (entry i) ≡ true).
    marked_0 (with_entries entry i others) bits after k (s ∙ ap sector_of (eqb-true (entry i) 0 z)) m u ∙ ap used_by (sym (gathered_miss taken sector others i (ap not z))))
    (λ (z : is_empty (entry i) ≡ false).
    marked_more (with_entries entry i others) bits after (sector_of (entry i)) m (u ∙ ap (λ (x : ℕ). updated bits x true) s)
    ∙ ap used_by (sym (gathered_hit taken sector others i (ap not z)))) (bool? (is_empty (entry i))))

-- Marks, one after the other and in any order.
twice : (a b c : Bool) → cond a true (cond b true c) ≡ cond b true (cond a true c)
twice true true c = refl
twice true false c = refl
twice false true c = refl
twice false false c = refl

pub marked_next : (sector : ℕ → ℕ) (i : ℕ) (first bits after : ℕ → Bool) (k : ℕ) → k ≡ sector i → bits ≡ marked sector i first → after ≡ updated bits k true
    → after ≡ marked sector (i + 1) first
unfolding marked
marked_next sector i first bits after k s m u =
    rw add-one (u ∙ ap (λ (x : ℕ). updated bits x true) s ∙ ap (λ (b : ℕ → Bool). updated b (sector i) true) m)

marked_past : (sector : ℕ → ℕ) (m : ℕ) (bits : ℕ → Bool) (x : ℕ) → updated (marked sector m bits) x true ≡ marked sector m (updated bits x true)
unfolding marked
marked_past sector zero bits x = refl
marked_past sector (suc m) bits x =
    fun_ext (λ k. twice (eqb k x) (eqb k (sector m)) (marked sector m bits k))
    ∙ ap (λ (b : ℕ → Bool). updated b (sector m) true) (marked_past sector m bits x)

-- Two runs of marks, in either order.
marked_swap : (f g : ℕ → ℕ) (a b : ℕ) (bits : ℕ → Bool) → marked f a (marked g b bits) ≡ marked g b (marked f a bits)
unfolding marked
marked_swap f g a zero bits = refl
marked_swap f g a (suc b) bits =
    sym (marked_past f a (marked g b bits) (g b)) ∙ ap (λ (x : ℕ → Bool). updated x (g b) true) (marked_swap f g a b bits)

-- Parts of one width, each from its first on: part m begins at m * width.
module _ (sector : ℕ → ℕ) (width : ℕ) where
  unfoldable pub in_part : ℕ → ℕ → ℕ
  in_part m i = sector (m * width + i)

  -- The first i of each of m parts.
  unfoldable pub parts : ℕ → ℕ → (ℕ → Bool) → ℕ → Bool
  parts zero i first = first
  parts (suc m) i first = marked (in_part m) i (parts m i first)

  parts_none : (m : ℕ) (first : ℕ → Bool) → parts m 0 first ≡ first
  unfolding parts marked
  parts_none zero first = refl
  parts_none (suc m) first = parts_none m first

  parts_more : (m i : ℕ) (first : ℕ → Bool) → parts m (suc i) first ≡ marked (λ j. in_part j i) m (parts m i first)
  unfolding parts marked
  parts_more zero i first = refl
  parts_more (suc m) i first =
      ap (λ (b : ℕ → Bool). updated b (in_part m i) true)
      (ap (marked (in_part m) i) (parts_more m i first) ∙ marked_swap (in_part m) (λ j. in_part j i) i m (parts m i first))

  joined : (start i : ℕ) (first : ℕ → Bool) → marked (λ j. sector (start + j)) i (marked sector start first) ≡ marked sector (start + i) first
  unfolding marked
  joined start zero first = ap (λ (x : ℕ). marked sector x first) (let e : start ≡ start + 0 = omega arith in e)
  joined start (suc i) first =
      ap (λ (b : ℕ → Bool). updated b (sector (start + i)) true) (joined start i first)
      ∙ ap (λ (x : ℕ). marked sector x first) (let e : suc (start + i) ≡ start + suc i = omega arith in e)

  parts_whole : (m : ℕ) (first : ℕ → Bool) → parts m width first ≡ marked sector (m * width) first
  unfolding parts in_part marked
  parts_whole zero first = ap (λ (x : ℕ). marked sector x first) (let e : 0 ≡ 0 * width = omega arith in e)
  parts_whole (suc m) first =
      ap (marked (in_part m) width) (parts_whole m first) ∙ joined (m * width) width first
      ∙ ap (λ (x : ℕ). marked sector x first) (let e : m * width + width ≡ suc m * width = omega arith in e)

  -- A loop that marks one of each of four parts in turn.
  abbrev pub Quarters : ℕ → (ℕ → Bool) → (ℕ → Bool) → Type 0
  Quarters i first bits = bits ≡ parts 4 i first

  pub quarters_start : (first : ℕ → Bool) → Quarters 0 first first
  quarters_start first = sym (parts_none 4 first)

  pub quarters_next : (i : ℕ) (first bits one two three after : ℕ → Bool) → Quarters i first bits → one ≡ updated bits (sector i) true
      → two ≡ updated one (sector (width + i)) true → three ≡ updated two (sector (2 * width + i)) true
      → after ≡ updated three (sector (3 * width + i)) true → Quarters (i + 1) first after
  unfolding marked in_part
  quarters_next i first bits one two three after h a b c d =
      let zeroth : sector i ≡ sector (0 * width + i) = ap sector (omega arith) in
      let first_part : sector (width + i) ≡ sector (1 * width + i) = ap sector (omega arith) in
      let e = a ∙ ap (λ (k : ℕ). updated bits k true) zeroth in
      let f = b ∙ ap (λ (x : ℕ → Bool). updated x (sector (width + i)) true) e ∙ ap (λ (k : ℕ). updated (updated bits (sector (0 * width + i)) true) k true) first_part in
      let g = c ∙ ap (λ (x : ℕ → Bool). updated x (sector (2 * width + i)) true) f in
      rw add-one
      (d ∙ ap (λ (x : ℕ → Bool). updated x (sector (3 * width + i)) true) g ∙ ap (marked (λ j. in_part j i) 4) h ∙ sym (parts_more 4 i first))

  pub quarters_end : (i : ℕ) (first bits : ℕ → Bool) → i ≡ width → Quarters i first bits → bits ≡ marked sector (4 * width) first
  quarters_end i first bits e h = h ∙ ap (λ (x : ℕ). parts 4 x first) e ∙ parts_whole 4 first

-- Marked so, the bits are those of the entries.
pub entries_marked : (entry : ℕ → ℕ) (others : List ℕ) (m : ℕ) → marked (λ b. sector_of (entry b)) m (used_by others) ≡ used_by (with_entries entry m others)
unfolding marked
entries_marked entry others zero = entries_start entry others (used_by others) refl
entries_marked entry others (suc m) =
    rw (sym (add-one m))
    (entry_marked entry others m (sector_of (entry m)) (marked (λ b. sector_of (entry b)) m (used_by others)) (updated (marked (λ b. sector_of (entry b)) m (used_by others)) (sector_of (entry m)) true)
    refl (entries_marked entry others m) refl)

pub entry_passed : (entry : ℕ → ℕ) (others : List ℕ) (i : ℕ) (bits : ℕ → Bool) → entry i ≡ 0
    → bits ≡ used_by (with_entries entry i others) → bits ≡ used_by (with_entries entry (i + 1) others)
entry_passed entry others i bits e m =
    rw add-one (m ∙ ap used_by (sym (gathered_miss (λ b. not (is_empty (entry b))) (λ b. sector_of (entry b)) others i (ap not (eq-eqb (entry i) 0 e)))))

-- A sector past the last is not named.
pub unnamed : (n : ℕ) (named : List ℕ) → all (within 1 (n - 1)) named ≡ true → (k : ℕ) → 1 ≤ n → n ≤ k → used_by named k ≡ false
unfolding used_by
unnamed n named inside k some past = rw (ne_eqb k 0 (λ (z : k ≡ 0). omega arith), not_there named inside) refl
  where
    not_there : (xs : List ℕ) → all (within 1 (n - 1)) xs ≡ true → elem k xs ≡ false
    not_there xs e =
        ⊎_elim (λ (z : elem k xs ≡ true).
        let w = all_elem (within 1 (n - 1)) xs k e z in
        let top = leb-true k (n - 1) (and_r (leb 1 k) (leb k (n - 1)) w) in
        absurd (omega arith))
        (λ (z : elem k xs ≡ false). z) (bool? (elem k xs))

only : (b : Bool) → cond b true false ≡ (b || false)
only true = refl
only false = refl

-- Where all bits are clear and then sector 0 is marked, the bits are those of no names.
zero_at : (m i : ℕ) → at (replicate m 0) i ≡ 0
zero_at zero i = refl
zero_at (suc m) zero = refl
zero_at (suc m) (suc i) = zero_at m i

zero_table : all_below (λ j. not (eqb (0 / 2 ^ j % 2) 1)) 8 ≡ true
unfolding all_below
zero_table = refl

pub zero_bit : (j : ℕ) → j < 8 → eqb (0 / 2 ^ j % 2) 1 ≡ false
zero_bit j h = not_of (eqb (0 / 2 ^ j % 2) 1) (all_below_at (λ j. not (eqb (0 / 2 ^ j % 2) 1)) 8 zero_table j h)

pub zeros_marked : (bits : ℕ → Bool) (us : List ℕ) (m : ℕ) → us ≡ replicate m 0 → bits ≡ updated (bit_at us) 0 true → bits ≡ used_by []
unfolding bit_at used_by elem
zeros_marked bits us m e h =
    h ∙ fun_ext (λ k.
    ap (cond (eqb k 0) true)
    (ap (λ (xs : List ℕ). eqb (at xs (k / 8) / 2 ^ (k % 8) % 2) 1) e
    ∙ ap (λ (x : ℕ). eqb (x / 2 ^ (k % 8) % 2) 1) (zero_at m (k / 8)) ∙ zero_bit (k % 8) (omega arith))
    ∙ only (eqb k 0))
