-- A word of 64 bits of a used map: its bits are those of its bytes, and it has as many ones as sectors are marked in it.
use Prim.Native.Nat.{ℕ, zero, suc, ◌+◌, ◌*◌, ◌-◌, ◌/◌, ◌%◌, ◌^◌, ◌≤◌, ◌<◌}
use mathlib.Core.Path.{◌≡◌, refl, sym, ◌∙◌, ap, ap₂, fun_ext}
use mathlib.Core.Logic.{⊎_elim}
use mathlib.Core.Bool.{Bool, true, false, cond, not, ◌&&◌}
use mathlib.Core.List.{List}
use native.Mathlib.Nat.{add-suc, mod-lt, mod-eq_of_lt, div-lt_iff_lt-mul}
use native.Mathlib.Numerals.{one-add}
use native.Mathlib.Omega.{arith}
use lib.ListN.{length, set}
use lib.Seq.{get_or-set_same, get_or-set_other}
use lib.Bits.{bit_or, or_shr, or_mod, or_zero_l, or_zero_r, or_self}
use lib.Pow.{pow_pos, pow_mono, pow-add, shr-shr, shl-shr, mod-pow-add, field, mod-mod-pow}
use lib.Count.{ones, ones_cat, ones-ones}
use lib.Dec.{eqb, ltb}
use borrow.Author.Tests.{eqb-true, eqb-false, eq-eqb, ne_eqb, lt-ltb, le-ltb}
use Rattle.layout.specs.Bounded.{at, all_below, count_below, updated}
use Rattle.volume.specs.Tables.{bit_at, free_sectors}
use Rattle.laws.proofs.Bounded.{bool?, lt?, eq?, cond_true, cond_false, all_below_at, count_hit, count_miss, count_same}

-- Bit j of a number.
abbrev pub bit : ℕ → ℕ → Bool
bit x j = eqb (x / 2 ^ j % 2) 1

-- Bits 0 to 7 are those of the lowest byte.
low_bit : (x j : ℕ) → j < 8 → x / 2 ^ j % 2 ≡ x % 256 / 2 ^ j % 2
low_bit x j h =
    let e : (7 - j) + (1 + j) ≡ 8 = omega arith in
    sym (field x 1 j)
    ∙ ap (λ (y : ℕ). y / 2 ^ j) (sym (mod-mod-pow x (7 - j) (1 + j)) ∙ ap (λ (k : ℕ). x % 2 ^ k % 2 ^ (1 + j)) e)
    ∙ field (x % 256) 1 j

-- Bytes as one number, the lowest first.
joined : (ℕ → ℕ) → ℕ → ℕ
joined f zero = 0
joined f (suc n) = f 0 + 256 * joined (λ i. f (suc i)) n

joined_bit : (f : ℕ → ℕ) → ((i : ℕ) → f i < 256) → (n j : ℕ) → j < 8 * n → joined f n / 2 ^ j % 2 ≡ f (j / 8) / 2 ^ (j % 8) % 2
unfolding joined
joined_bit f b zero j h = absurd (omega arith)
joined_bit f b (suc n) j h =
    let rest = joined (λ i. f (suc i)) n in
    let b0 = b 0 in
    ⊎_elim (λ (z : j < 8).
    let q : 0 ≡ j / 8 = omega arith in
    let r : j ≡ j % 8 = omega arith in
    let e : (f 0 + 256 * rest) % 256 ≡ f 0 = omega arith in
    low_bit (f 0 + 256 * rest) j z ∙ ap (λ (x : ℕ). x / 2 ^ j % 2) e ∙ ap₂ (λ (x y : ℕ). f x / 2 ^ y % 2) q r)
    (λ (z : 8 ≤ j).
    let up : 8 + (j - 8) ≡ j = omega arith in
    let q : suc ((j - 8) / 8) ≡ j / 8 = omega arith in
    let r : (j - 8) % 8 ≡ j % 8 = omega arith in
    let e : (f 0 + 256 * rest) / 256 ≡ rest = omega arith in
    ap (λ (k : ℕ). (f 0 + 256 * rest) / 2 ^ k % 2) (sym up)
    ∙ ap (λ (x : ℕ). x % 2) (sym (shr-shr (f 0 + 256 * rest) 8 (j - 8)) ∙ ap (λ (x : ℕ). x / 2 ^ (j - 8)) e)
    ∙ joined_bit (λ i. f (suc i)) (λ i. b (suc i)) n (j - 8) (omega arith)
    ∙ ap₂ (λ (x y : ℕ). f x / 2 ^ y % 2) q r)
    (lt? j 8)

-- Bytes 8w to 8w + 7 of a map, as one number, hold the bits of sectors 64w to 64w + 63.
pub word_bits : (us : List ℕ) (w r : ℕ) → ((i : ℕ) → at us i < 256)
    → r ≡ at us (8 * w) + 256 * (at us (8 * w + 1) + 256 * (at us (8 * w + 2) + 256 * (at us (8 * w + 3) + 256 * (at us (8 * w + 4)
    + 256 * (at us (8 * w + 5) + 256 * (at us (8 * w + 6) + 256 * at us (8 * w + 7)))))))
    → (j : ℕ) → j < 64 → bit r j ≡ bit_at us (64 * w + j)
unfolding joined bit_at
word_bits us w r b e j h =
    let f : ℕ → ℕ = λ i. at us (8 * w + i) in
    let first : at us (8 * w) ≡ f 0 = ap (at us) (omega arith) in
    let all : r ≡ joined f 8 = omega arith in
    let q : 8 * w + j / 8 ≡ (64 * w + j) / 8 = omega arith in
    let p : j % 8 ≡ (64 * w + j) % 8 = omega arith in
    ap (λ (x : ℕ). bit x j) all
    ∙ ap (λ (x : ℕ). eqb x 1) (joined_bit f (λ i. b (8 * w + i)) 8 j h ∙ ap₂ (λ (x y : ℕ). at us x / 2 ^ y % 2) q p)

-- A word that is all ones has every sector marked.
pub word_full : (us : List ℕ) (w x : ℕ) → ((j : ℕ) → j < 64 → bit x j ≡ bit_at us (64 * w + j)) → x ≡ 18446744073709551615
    → (j : ℕ) → j < 64 → bit_at us (64 * w + j) ≡ true
unfolding all_below
word_full us w x same e j h = sym (same j h) ∙ ap (λ (y : ℕ). bit y j) e ∙ all_below_at (bit 18446744073709551615) 64 refl j h

-- The ones of a number's lowest k bits, counted.
count_ones : (x k : ℕ) → count_below (bit x) k ≡ ones (x % 2 ^ k)
unfolding count_below ones
count_ones x zero = let e : 0 ≡ x % 1 = omega arith in ap ones e
count_ones x (suc k) =
    let top = x / 2 ^ k % 2 in
    let two : top < 2 = omega arith in
    let cut : ones (x % 2 ^ suc k) ≡ ones top + ones (x % 2 ^ k) =
    ap (λ (y : ℕ). ones (x % 2 ^ y)) (sym (one-add k)) ∙ ap ones (mod-pow-add x 1 k) ∙ ones_cat k top (x % 2 ^ k) (mod-lt x (pow_pos k)) in
    let before = count_ones x k in
    ⊎_elim (λ (z : bit x k ≡ true).
    let one : ones top ≡ 1 = ap ones (eqb-true top 1 z) ∙ ones-ones 1 in
    count_hit (bit x) k z ∙ let e : suc (count_below (bit x) k) ≡ ones (x % 2 ^ suc k) = omega arith in e)
    (λ (z : bit x k ≡ false).
    let d = eqb-false top 1 z in
    let zero-top : top ≡ 0 = omega arith in
    let none : ones top ≡ 0 = ap ones zero-top in
    count_miss (bit x) k z ∙ let e : count_below (bit x) k ≡ ones (x % 2 ^ suc k) = omega arith in e)
    (bool? (bit x k))

-- Counted on from m.
count_on : (test : ℕ → Bool) (m k : ℕ) → count_below test (m + k) ≡ count_below test m + count_below (λ j. test (m + j)) k
unfolding count_below
count_on test m zero = let e : m + 0 ≡ m = omega arith in ap (count_below test) e ∙ omega arith
count_on test m (suc k) =
    let r = count_on test m k in
    ap (count_below test) (add-suc m k)
    ∙ ⊎_elim (λ (z : test (m + k) ≡ true).
    rw (count_hit test (m + k) z, count_hit (λ j. test (m + j)) k z) (omega arith))
    (λ (z : test (m + k) ≡ false).
    rw (count_miss test (m + k) z, count_miss (λ j. test (m + j)) k z) r)
    (bool? (test (m + k)))

-- Marked sectors counted, a word at a time.
pub set_none : (us : List ℕ) → 0 ≡ count_below (bit_at us) (64 * 0)
unfolding count_below
set_none us = refl

pub set_more : (us : List ℕ) (w x : ℕ) → x < 2 ^ 64 → ((j : ℕ) → j < 64 → bit x j ≡ bit_at us (64 * w + j))
    → count_below (bit_at us) (64 * w) + ones x ≡ count_below (bit_at us) (64 * (w + 1))
set_more us w x h same =
    let e : 64 * w + 64 ≡ 64 * (w + 1) = omega arith in
    ap (λ (y : ℕ). count_below (bit_at us) (64 * w) + y)
    (ap ones (sym (mod-eq_of_lt h)) ∙ sym (count_ones x 64) ∙ count_same (bit x) (λ j. bit_at us (64 * w + j)) 64 same)
    ∙ sym (count_on (bit_at us) (64 * w) 64) ∙ ap (count_below (bit_at us)) e

-- What is not marked is free.
set_free : (us : List ℕ) (n : ℕ) → count_below (bit_at us) n + free_sectors n (bit_at us) ≡ n
unfolding free_sectors count_below
set_free us zero = refl
set_free us (suc n) =
    let r = set_free us n in
    ⊎_elim (λ (z : bit_at us n ≡ true).
    rw (count_hit (bit_at us) n z, count_miss (λ k. not (bit_at us k)) n (ap not z)) (omega arith))
    (λ (z : bit_at us n ≡ false).
    rw (count_miss (bit_at us) n z, count_hit (λ k. not (bit_at us k)) n (ap not z)) (omega arith))
    (bool? (bit_at us n))

-- What whole words leave free, from the marked sectors in them.
pub free_words : (us : List ℕ) (w set : ℕ) → set ≡ count_below (bit_at us) (64 * w) → (set ≤ w * 64) × (w * 64 - set ≡ free_sectors (w * 64) (bit_at us))
free_words us w set e =
    let both = set_free us (w * 64) in
    let same : 64 * w ≡ w * 64 = omega arith in
    let here = e ∙ ap (count_below (bit_at us)) same in
    (omega arith, omega arith)

-- A word stored byte by byte: the bytes below i of word w are those of x.
abbrev pub Part : ℕ → ℕ → ℕ → (ℕ → Bool) → ℕ → Bool
Part w x i bits k = cond (eqb (k / 64) w && ltb (k % 64 / 8) i) (bit x (k % 64)) (bits k)

never : (a : Bool) → (a && false) ≡ false
never true = refl
never false = refl

ever : (a : Bool) → (a && true) ≡ a
ever true = refl
ever false = refl

pub part_none : (w x : ℕ) (bits : ℕ → Bool) → bits ≡ Part w x 0 bits
part_none w x bits =
    fun_ext (λ k. sym (cond_false (eqb (k / 64) w && ltb (k % 64 / 8) 0) (bit x (k % 64)) (bits k)
    (ap (λ (b : Bool). eqb (k / 64) w && b) (le-ltb (k % 64 / 8) 0 (omega arith)) ∙ never (eqb (k / 64) w))))

pub part_all : (w x i : ℕ) (bits : ℕ → Bool) → i ≡ 8 → Part w x i bits ≡ (λ k. cond (eqb (k / 64) w) (bit x (k % 64)) (bits k))
part_all w x i bits e =
    fun_ext (λ k. ap (λ (b : Bool). cond b (bit x (k % 64)) (bits k))
    (ap (λ (b : Bool). eqb (k / 64) w && b) (lt-ltb (k % 64 / 8) i (omega arith)) ∙ ever (eqb (k / 64) w)))

-- Byte i of x has bits 8i to 8i + 7.
byte_bit : (x i j : ℕ) → j < 8 → bit (x / 2 ^ (8 * i) % 256) j ≡ bit x (8 * i + j)
byte_bit x i j h = ap (λ (y : ℕ). eqb y 1) (sym (low_bit (x / 2 ^ (8 * i)) j h) ∙ ap (λ (y : ℕ). y % 2) (shr-shr x (8 * i) j))

module _ (us : List ℕ) (w x i v : ℕ) (bits : ℕ → Bool) (few : i < 8) (room : 8 * w + 8 ≤ length us) (is : v ≡ x / 2 ^ (8 * i) % 256) where
  pub part_more : bit_at us ≡ Part w x i bits → bit_at (set us (8 * w + i) v) ≡ Part w x (i + 1) bits
  unfolding bit_at
  part_more e =
      fun_ext (λ k.
      ⊎_elim (λ (z : k / 8 ≡ 8 * w + i).
      let word : k / 64 ≡ w = omega arith in
      let byte : k % 64 / 8 ≡ i = omega arith in
      let place : 8 * i + k % 8 ≡ k % 64 = omega arith in
      let here : at (set us (8 * w + i) v) (k / 8) ≡ v =
      ap (at (set us (8 * w + i) v)) z ∙ get_or-set_same us (8 * w + i) v 0 (omega arith) in
      ap (λ (y : ℕ). bit y (k % 8)) (here ∙ is)
      ∙ byte_bit x i (k % 8) (omega arith)
      ∙ ap (bit x) place
      ∙ sym (cond_true (eqb (k / 64) w && ltb (k % 64 / 8) (i + 1)) (bit x (k % 64)) (bits k)
      (rw (eq-eqb (k / 64) w word, lt-ltb (k % 64 / 8) (i + 1) (omega arith)) refl)))
      (λ (d : k / 8 ≡ 8 * w + i → ⊥).
      ap (λ (y : ℕ). bit y (k % 8)) (get_or-set_other us (8 * w + i) (k / 8) v 0 d)
      ∙ ap (λ (f : ℕ → Bool). f k) e
      ∙ ap (λ (b : Bool). cond b (bit x (k % 64)) (bits k))
      (⊎_elim (λ (z : k / 64 ≡ w).
      ap (λ (b : Bool). eqb (k / 64) w && b)
      (⊎_elim (λ (y : k % 64 / 8 < i). lt-ltb (k % 64 / 8) i y ∙ sym (lt-ltb (k % 64 / 8) (i + 1) (omega arith)))
      (λ (y : i ≤ k % 64 / 8).
      let other : k % 64 / 8 ≡ i → ⊥ = λ q. d (omega arith) in
      le-ltb (k % 64 / 8) i y ∙ sym (le-ltb (k % 64 / 8) (i + 1) (above (k % 64 / 8) i y other)))
      (lt? (k % 64 / 8) i)))
      (λ (z : k / 64 ≡ w → ⊥). rw (ne_eqb (k / 64) w z) refl)
      (eq? (k / 64) w)))
      (eq? (k / 8) (8 * w + i)))
    where
      above : (a b : ℕ) → b ≤ a → (a ≡ b → ⊥) → b + 1 ≤ a
      above a b h d = omega arith

-- A word of the map at hand, apart from the map: the bits with it put back.
abbrev pub Back : ℕ → ℕ → (ℕ → Bool) → ℕ → Bool
Back w x bits k = cond (eqb (k / 64) w) (bit x (k % 64)) (bits k)

pub back_same : (w x : ℕ) (bits : ℕ → Bool) → ((j : ℕ) → j < 64 → bit x j ≡ bits (64 * w + j)) → Back w x bits ≡ bits
back_same w x bits e =
    fun_ext (λ k.
    ⊎_elim (λ (z : k / 64 ≡ w).
    let place : 64 * w + k % 64 ≡ k = omega arith in
    cond_true (eqb (k / 64) w) (bit x (k % 64)) (bits k) (eq-eqb (k / 64) w z) ∙ e (k % 64) (omega arith) ∙ ap bits place)
    (λ (d : k / 64 ≡ w → ⊥). cond_false (eqb (k / 64) w) (bit x (k % 64)) (bits k) (ne_eqb (k / 64) w d)) (eq? (k / 64) w))

-- A bit set in the word at hand is set in the map.
pub back_set : (w x y k : ℕ) (bits : ℕ → Bool) → k / 64 ≡ w → ((j : ℕ) → j < 64 → bit y j ≡ cond (eqb j (k % 64)) true (bit x j))
    → Back w y bits ≡ updated (Back w x bits) k true
back_set w x y k bits here set_here =
    fun_ext (λ j.
    ⊎_elim (λ (z : j / 64 ≡ w).
    cond_true (eqb (j / 64) w) (bit y (j % 64)) (bits j) (eq-eqb (j / 64) w z)
    ∙ set_here (j % 64) (omega arith)
    ∙ ⊎_elim (λ (q : j ≡ k).
    cond_true (eqb (j % 64) (k % 64)) true (bit x (j % 64)) (eq-eqb (j % 64) (k % 64) (ap (λ (a : ℕ). a % 64) q))
    ∙ sym (cond_true (eqb j k) true (Back w x bits j) (eq-eqb j k q)))
    (λ (q : j ≡ k → ⊥).
    cond_false (eqb (j % 64) (k % 64)) true (bit x (j % 64)) (ne_eqb (j % 64) (k % 64) (λ (r : j % 64 ≡ k % 64). q (omega arith)))
    ∙ sym (cond_true (eqb (j / 64) w) (bit x (j % 64)) (bits j) (eq-eqb (j / 64) w z))
    ∙ sym (cond_false (eqb j k) true (Back w x bits j) (ne_eqb j k q)))
    (eq? j k))
    (λ (d : j / 64 ≡ w → ⊥).
    cond_false (eqb (j / 64) w) (bit y (j % 64)) (bits j) (ne_eqb (j / 64) w d)
    ∙ sym (cond_false (eqb (j / 64) w) (bit x (j % 64)) (bits j) (ne_eqb (j / 64) w d))
    ∙ sym (cond_false (eqb j k) true (Back w x bits j) (ne_eqb j k (λ (q : j ≡ k). d (ap (λ (a : ℕ). a / 64) q ∙ here)))))
    (eq? (j / 64) w))

-- One bit of a word set.
one_bit : (i j : ℕ) → eqb (2 ^ i / 2 ^ j % 2) 1 ≡ eqb j i
one_bit i j =
    ⊎_elim (λ (z : j < i).
    let up : (i - j) ≡ 1 + (i - j - 1) = omega arith in
    let split : 2 ^ i ≡ 2 ^ (i - j) * 2 ^ j = ap (λ (k : ℕ). 2 ^ k) (let e : i ≡ (i - j) + j = omega arith in e) ∙ pow-add 2 (i - j) j in
    let cut : 2 ^ i / 2 ^ j ≡ 2 ^ (i - j) = ap (λ (k : ℕ). k / 2 ^ j) split ∙ shl-shr (2 ^ (i - j)) j in
    let twice : 2 ^ (i - j) ≡ 2 * 2 ^ (i - j - 1) = ap (λ (k : ℕ). 2 ^ k) up ∙ pow-add 2 1 (i - j - 1) in
    let even : 2 ^ i / 2 ^ j % 2 ≡ 0 = ap (λ (k : ℕ). k % 2) (cut ∙ twice) ∙ omega arith in
    ap (λ (k : ℕ). eqb k 1) even ∙ sym (ne_eqb j i (λ (q : j ≡ i). omega arith)))
    (λ (z : i ≤ j).
    ⊎_elim (λ (q : j ≡ i).
    let self : 2 ^ i / 2 ^ j ≡ 1 = ap (λ (k : ℕ). 2 ^ i / 2 ^ k) q ∙ ap (λ (k : ℕ). k / 2 ^ i) (let e : 2 ^ i ≡ 1 * 2 ^ i = omega arith in e) ∙ shl-shr 1 i in
    ap (λ (k : ℕ). eqb (k % 2) 1) self ∙ sym (eq-eqb j i q))
    (λ (d : j ≡ i → ⊥).
    let less : 2 ^ i < 2 ^ j = pow_less i j (omega arith) in
    let none : 2 ^ i / 2 ^ j ≡ 0 = (let q : 2 ^ i / 2 ^ j < 1 = (div-lt_iff_lt-mul (pow_pos j)).1 (let o : 1 * 2 ^ j ≡ 2 ^ j = omega arith in omega arith) in omega arith) in
    ap (λ (k : ℕ). eqb (k % 2) 1) none ∙ sym (ne_eqb j i d))
    (eq? j i))
    (lt? j i)
  where
    pow_less : (a b : ℕ) → a < b → 2 ^ a < 2 ^ b
    pow_less a b h =
        let more = pow_mono h in
        let two : 2 ^ suc a ≡ 2 * 2 ^ a = ap (λ (k : ℕ). 2 ^ k) (sym (one-add a)) ∙ pow-add 2 1 a in
        let some = pow_pos a in
        omega arith

two_bits : (a b : ℕ) → a < 2 → b < 2 → eqb (bit_or a b) 1 ≡ cond (eqb b 1) true (eqb a 1)
two_bits a b h k =
    ⊎_elim (λ (z : b ≡ 0). ap (λ (y : ℕ). eqb (bit_or a y) 1) z ∙ ap (λ (y : ℕ). eqb y 1) (or_zero_r a) ∙ sym (ap (λ (y : ℕ). cond (eqb y 1) true (eqb a 1)) z))
    (λ (z : b ≡ 0 → ⊥).
    let one : b ≡ 1 = omega arith in
    ap (λ (y : ℕ). eqb (bit_or a y) 1) one
    ∙ ⊎_elim (λ (y : a ≡ 0). ap (λ (q : ℕ). eqb (bit_or q 1) 1) y ∙ ap (λ (q : ℕ). eqb q 1) (or_zero_l 1))
    (λ (y : a ≡ 0 → ⊥). let o : a ≡ 1 = omega arith in ap (λ (q : ℕ). eqb (bit_or q 1) 1) o ∙ ap (λ (q : ℕ). eqb q 1) (or_self 1))
    (eq? a 0)
    ∙ sym (ap (λ (y : ℕ). cond (eqb y 1) true (eqb a 1)) one))
    (eq? b 0)

pub or_bit : (x i j : ℕ) → bit (bit_or x (2 ^ i)) j ≡ cond (eqb j i) true (bit x j)
or_bit x i j =
    ap (λ (y : ℕ). eqb y 1) (ap (λ (y : ℕ). y % 2) (or_shr x (2 ^ i) j) ∙ or_mod (x / 2 ^ j) (2 ^ i / 2 ^ j) 1)
    ∙ two_bits (x / 2 ^ j % 2) (2 ^ i / 2 ^ j % 2) (omega arith) (omega arith)
    ∙ ap (λ (b : Bool). cond b true (bit x j)) (one_bit i j)
