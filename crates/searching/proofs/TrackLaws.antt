-- Along a track, and across the tracks: what passes under the head.
use Prim.Native.Nat.{ℕ, ◌+◌, ◌*◌, ◌-◌, ◌/◌, ◌%◌, ◌^◌, ◌≤◌, ◌<◌}
use mathlib.Core.Path.{◌≡◌, refl, sym, ◌∙◌, ap, ap₂}
use mathlib.Core.Logic.{⊎_elim}
use mathlib.Core.Bool.{Bool, true, false, cond}
use mathlib.Core.List.{List}
use Rattle.std.specs.Prelude.{Option, None, Some, MatchOption}
use native.Mathlib.Nat.{mod-lt, mod-eq_of_lt, mod_self, mod-add-mod, add-mod_right, add-mul-mod_self_right, add-mul, zero-mul, mod-le, mul-le-mul_right}
use native.Mathlib.Omega.{arith}
use lib.ListN.{length, replicate, set}
use lib.Seq.{get_or-set_same, get_or-set_other}
use lib.Dec.{eqb, ltb}
use borrow.Author.Tests.{lt-ltb, le-ltb, eq-eqb, ne_eqb}
use Rattle.layout.specs.Bounded.{at, all_below, updated}
use Rattle.volume.specs.Tables.{bit_at}
use Rattle.laws.proofs.Bounded.{lt?, eq?, cond_true, cond_false, all_below_at}
use Rattle.laws.proofs.Filling.{zeros_get}
use Rattle.bits.proofs.WordLaws.{bit, word_full}
use Rattle.searching.specs.Searching.{turned, AllPassed, UsedAt, LowestFree, NoneWithin, Known}

-- Sectors from k on that can be skipped at once: they are used, and neither the steps nor the sectors end before they do.
abbrev pub Run : ℕ → ℕ → (ℕ → Bool) → ℕ → ℕ → Type 0
Run n steps is_used k run = (0 < run) × (run ≤ steps) × (k + run ≤ n) × ((j : ℕ) → j < run → is_used (k + j) ≡ true)

-- The sectors of a full byte or word.
pub run_byte : (n steps : ℕ) (us : List ℕ) (k : ℕ) → k < n → k % 8 ≡ 0 → 8 ≤ n - k → 8 ≤ steps → at us (k / 8) ≡ 255 → Run n steps (bit_at us) k 8
unfolding bit_at all_below
run_byte n steps us k h start inside some full = (
  omega arith,
  some,
  omega arith,
  λ j b.
      let byte : (k + j) / 8 ≡ k / 8 = omega arith in
      let bit : (k + j) % 8 ≡ j = omega arith in
      ap₂ (λ (x y : ℕ). eqb (at us x / 2 ^ y % 2) 1) byte bit ∙ ap (λ (x : ℕ). eqb (x / 2 ^ j % 2) 1) full ∙ ones j b,
)
  where
    ones : (j : ℕ) → j < 8 → eqb (255 / 2 ^ j % 2) 1 ≡ true
    ones j b = all_below_at (λ (i : ℕ). eqb (255 / 2 ^ i % 2) 1) 8 refl j b

pub run_word : (n steps : ℕ) (us : List ℕ) (k x : ℕ) → k < n → k % 64 ≡ 0 → 64 ≤ n - k → 64 ≤ steps
    → ((j : ℕ) → j < 64 → bit x j ≡ bit_at us (64 * (k / 64) + j)) → x ≡ 18446744073709551615 → Run n steps (bit_at us) k 64
run_word n steps us k x h start inside some same full = (
  omega arith,
  some,
  omega arith,
  λ j b. let here : k + j ≡ 64 * (k / 64) + j = omega arith in ap (bit_at us) here ∙ word_full us (k / 64) x same full j b,
)

-- One track, of `size` sectors from `first` on.
module _ (first size start : ℕ) (low : first ≤ start) (high : start < first + size) where
  pub turned_none : start ≡ turned first size start 0
  turned_none =
      let m = mod-eq_of_lt (let h : start - first + 0 < size = omega arith in h) in
      omega arith

  pub turned_inside : (w : ℕ) → (first ≤ turned first size start w) × (turned first size start w < first + size)
  turned_inside w =
      let m = mod-lt (start - first + w) (let h : 0 < size = omega arith in h) in
      (omega arith, omega arith)

  -- A little later, on the same revolution of the track.
  turned_later : (w j : ℕ) → (start - first + w) % size + j < size → turned first size start (w + j) ≡ turned first size start w + j
  turned_later w j h =
      let p = start - first in
      let assoc : p + (w + j) ≡ p + w + j = omega arith in
      let e : (p + (w + j)) % size ≡ (p + w) % size + j = ap (λ (x : ℕ). x % size) assoc ∙ sym (mod-add-mod (p + w) size j) ∙ mod-eq_of_lt h in
      omega arith

  turned_over : (w j : ℕ) → (start - first + w) % size + j ≡ size → turned first size start (w + j) ≡ first
  turned_over w j h =
      let p = start - first in
      let assoc : p + (w + j) ≡ p + w + j = omega arith in
      let e : (p + (w + j)) % size ≡ 0 = ap (λ (x : ℕ). x % size) assoc ∙ sym (mod-add-mod (p + w) size j) ∙ ap (λ (x : ℕ). x % size) h ∙ mod_self size in
      omega arith

  -- A run of used sectors on the way.
  pub run_turned : (w k run next : ℕ) → k ≡ turned first size start w → k + run ≤ first + size → next ≡ cond (ltb (k + run) (first + size)) (k + run) first
      → next ≡ turned first size start (w + run)
  run_turned w k run next e h n =
      let p = start - first in
      ⊎_elim (λ (z : k + run < first + size).
      let later = turned_later w run (omega arith) in
      let q = n ∙ cond_true (ltb (k + run) (first + size)) (k + run) first (lt-ltb (k + run) (first + size) z) in
      omega arith)
      (λ (z : first + size ≤ k + run).
      let over = turned_over w run (omega arith) in
      let q = n ∙ cond_false (ltb (k + run) (first + size)) (k + run) first (le-ltb (k + run) (first + size) z) in
      omega arith)
      (lt? (k + run) (first + size))

  pub run_passed : (is_used : ℕ → Bool) (w k run steps : ℕ) → k ≡ turned first size start w → Run (first + size) steps is_used k run
      → AllPassed is_used first size start w → AllPassed is_used first size start (w + run)
  run_passed is_used w k run steps e (some, few, inside, used) before v h =
      ⊎_elim (λ (z : v < w). before v z)
      (λ (z : w ≤ v).
      let cut : v ≡ w + (v - w) = omega arith in
      let later = turned_later w (v - w) (omega arith) in
      let there : turned first size start v ≡ k + (v - w) = ap (turned first size start) cut ∙ later ∙ (let q : turned first size start w + (v - w) ≡ k + (v - w) = omega arith in q) in
      ap is_used there ∙ used (v - w) (omega arith))
      (lt? v w)

-- Not the last of them: there is one more.
pub run_more : (n k : ℕ) → k ≤ n → (k ≡ n → ⊥) → k < n
run_more n k h d = ⊎_elim (λ (l : k < n). l) (λ (l : n ≤ k). absurd (d (omega arith))) (lt? k n)

-- Sectors at one position: the next one is a track further on.
pub at_position : (size position track k : ℕ) → position < size → k ≡ position + track * size → k % size ≡ position
at_position size position track k h e = ap (λ (x : ℕ). x % size) e ∙ add-mul-mod_self_right position track size ∙ mod-eq_of_lt h

pub at_next : (is_used : ℕ → Bool) (size position track k : ℕ) → position < size → k ≡ position + track * size → is_used k ≡ true → UsedAt is_used size position k
    → (k + size ≡ position + (track + 1) * size) × UsedAt is_used size position (k + size)
at_next is_used size position track k h place u before = (
  (let one = add-mul track 1 size in omega arith),
  λ q b p.
      let e = at_position size position track k h place in
      ⊎_elim (λ (z : q < k). before q z p)
      (λ (z : k ≤ q).
      let cut : q ≡ k + (q - k) = omega arith in
      let turn : q % size ≡ (position + (q - k)) % size = ap (λ (x : ℕ). x % size) cut ∙ sym (mod-add-mod k size (q - k)) ∙ ap (λ (x : ℕ). (x + (q - k)) % size) e in
      ⊎_elim (λ (y : position + (q - k) < size).
      let m = mod-eq_of_lt y in
      let same : q ≡ k = omega arith in
      ap is_used same ∙ u)
      (λ (y : size ≤ position + (q - k)).
      let back : position + (q - k) ≡ position + (q - k) - size + size = omega arith in
      let m = ap (λ (x : ℕ). x % size) back ∙ add-mod_right (position + (q - k) - size) size ∙ mod-eq_of_lt (let x : position + (q - k) - size < size = omega arith in x) in
      absurd (omega arith))
      (lt? (position + (q - k)) size))
      (lt? q k),
)

-- So many positions further, around the track.
pub next_position : (size position skipped at run next : ℕ) → at ≡ (position + skipped) % size → at < size → at + run ≤ size
    → next ≡ cond (ltb (at + run) size) (at + run) 0 → (next ≡ (position + (skipped + run)) % size) × (next < size)
next_position size position skipped at run next e b inside n =
    let assoc : position + (skipped + run) ≡ position + skipped + run = omega arith in
    let on : (position + (skipped + run)) % size ≡ (at + run) % size = ap (λ (x : ℕ). x % size) assoc ∙ sym (mod-add-mod (position + skipped) size run) ∙ ap (λ (x : ℕ). (x + run) % size) (sym e) in
    ⊎_elim (λ (z : at + run < size).
    let q = n ∙ cond_true (ltb (at + run) size) (at + run) 0 (lt-ltb (at + run) size z) in
    (q ∙ sym (mod-eq_of_lt z) ∙ sym on, omega arith))
    (λ (z : size ≤ at + run).
    let q = n ∙ cond_false (ltb (at + run) size) (at + run) 0 (le-ltb (at + run) size z) in
    let last : at + run ≡ size = omega arith in
    (q ∙ sym (on ∙ ap (λ (x : ℕ). x % size) last ∙ mod_self size), omega arith))
    (lt? (at + run) size)

pub first_position : (size position : ℕ) → position < size → position ≡ (position + 0) % size
first_position size position h =
    let m = mod-eq_of_lt (let x : position + 0 < size = omega arith in x) in
    omega arith

-- Some positions more without a free sector.
pub none_yet : (is_used : ℕ → Bool) (n size position : ℕ) → NoneWithin is_used n size position 0
none_yet is_used n size position j h = absurd (omega arith)

pub none_more : (is_used : ℕ → Bool) (n size position skipped at run : ℕ) → at ≡ (position + skipped) % size → at + run ≤ size → NoneWithin is_used n size position skipped
    → ((j : ℕ) → j < run → UsedAt is_used size (at + j) n) → NoneWithin is_used n size position (skipped + run)
none_more is_used n size position skipped at run e inside before here j h k b p =
    ⊎_elim (λ (z : j < skipped). before j z k b p)
    (λ (z : skipped ≤ j).
    let cut : position + j ≡ position + skipped + (j - skipped) = omega arith in
    let there : (position + j) % size ≡ at + (j - skipped) = ap (λ (x : ℕ). x % size) cut ∙ sym (mod-add-mod (position + skipped) size (j - skipped)) ∙ ap (λ (x : ℕ). (x + (j - skipped)) % size) (sym e) ∙ mod-eq_of_lt (omega arith) in
    here (j - skipped) (omega arith) k b (p ∙ there))
    (lt? j skipped)

pub one_more : (is_used : ℕ → Bool) (n size position : ℕ) → UsedAt is_used size position n → (j : ℕ) → j < 1 → UsedAt is_used size (position + j) n
one_more is_used n size position here j h k b p = here k b (p ∙ (let same : position + j ≡ position = omega arith in same))

-- What is known of the positions: nothing at first, what was looked at then, and no less when more sectors are used.
pub known_none : (xs : List ℕ) (is_used : ℕ → Bool) (n size : ℕ) → xs ≡ replicate (length xs) 0 → Known xs is_used n size
known_none xs is_used n size e position =
    let none : at xs position ≡ 0 = ap (λ (ys : List ℕ). at ys position) e ∙ zeros_get (length xs) position in (
      λ full. absurd (omega arith),
      λ few k b p.
          let start : at xs position * size ≡ 0 = ap (λ (x : ℕ). x * size) none ∙ zero-mul size in
          let low = mod-le k size in
          absurd (omega arith),
    )

pub known_more : (xs : List ℕ) (is_used : ℕ → Bool) (n size position track k x : ℕ) → position < length xs → k ≡ position + track * size → UsedAt is_used size position k
    → (x ≡ 255 → n ≤ k) × (x < 255 → x ≤ track) → Known xs is_used n size → Known (set xs position x) is_used n size
known_more xs is_used n size position track k x inside there here says before q =
    ⊎_elim (λ (z : q ≡ position).
    let is : at (set xs position x) q ≡ x = ap (at (set xs position x)) z ∙ get_or-set_same xs position x 0 inside in (
      λ full j b p. (let past = says.0 (sym is ∙ full) in here j (omega arith) (p ∙ z)),
      λ few j b p.
          let less : at (set xs position x) q * size ≤ track * size = mul-le-mul_right size (let y : at (set xs position x) q ≤ track = (let w = says.1 (omega arith) in omega arith) in y) in
          here j (omega arith) (p ∙ z),
    ))
    (λ (z : q ≡ position → ⊥).
    let is : at (set xs position x) q ≡ at xs q = get_or-set_other xs position q x 0 z in
    let same : at (set xs position x) q * size ≡ at xs q * size = ap (λ (y : ℕ). y * size) is in
    (λ full. (before q).0 (sym is ∙ full), λ few j b p. (before q).1 (omega arith) j (omega arith) p))
    (eq? q position)

-- What is known to be full has no free sector.
pub full_passed : (xs : List ℕ) (is_used : ℕ → Bool) (n size from end : ℕ) → ((j : ℕ) → from ≤ j → j < end → at xs j ≡ 255) → Known xs is_used n size
    → (j : ℕ) → j < end - from → UsedAt is_used size (from + j) n
full_passed xs is_used n size from end full known j h = (known (from + j)).0 (full (from + j) (omega arith) (omega arith))

-- A sector where a search at a position ended, as one of n or none.
pub lowest_found : (is_used : ℕ → Bool) (n size position sector : ℕ) (found : Option ℕ) → MatchOption found (n ≤ sector) (λ k. (k ≡ sector) × (k < n)) → sector % size ≡ position
    → UsedAt is_used size position sector → (sector < n → is_used sector ≡ false)
    → MatchOption found (UsedAt is_used size position n) (λ k. (k < n) × LowestFree is_used size position k)
lowest_found is_used n size position sector None past there used free = λ q b p. used q (omega arith) p
lowest_found is_used n size position sector (Some k) (e, b) there used free =
    rw e (let h : sector < n = omega arith in (h, (free h, there, used)))

more_used : (is_used is_used' : ℕ → Bool) (place k : ℕ) → is_used' ≡ updated is_used place true → is_used k ≡ true → is_used' k ≡ true
more_used is_used is_used' place k e u =
    ap (λ (f : ℕ → Bool). f k) e
    ∙ ⊎_elim (λ (z : k ≡ place). cond_true (eqb k place) true (is_used k) (eq-eqb k place z))
    (λ (z : k ≡ place → ⊥). cond_false (eqb k place) true (is_used k) (ne_eqb k place z) ∙ u)
    (eq? k place)

pub known_kept : (xs : List ℕ) (is_used is_used' : ℕ → Bool) (n size place : ℕ) → is_used' ≡ updated is_used place true → Known xs is_used n size → Known xs is_used' n size
known_kept xs is_used is_used' n size place e before position = (
  λ full k b p. more_used is_used is_used' place k e ((before position).0 full k b p),
  λ few k b p. more_used is_used is_used' place k e ((before position).1 few k b p),
)
