-- A view with its length fixes all of what it is a view of: every byte of an image, every word of a table, every byte of a used map, spare
-- bits too. So an equation between views says all of a buffer that was lent.
use Prim.Native.Nat.{ℕ, zero, suc, ◌+◌, ◌*◌, ◌/◌, ◌%◌, ◌^◌, ◌≤◌, ◌<◌}
use mathlib.Core.Path.{◌≡◌, refl, sym, ◌∙◌, ap, ap₂}
use mathlib.Core.Logic.{⊎_elim}
use mathlib.Core.Bool.{Bool}
use mathlib.Core.List.{List}
use native.Mathlib.Numerals.{add-one, one-add}
use native.Mathlib.Omega.{arith}
use lib.ListN.{length, drop}
use lib.Seq.{sets, length-sets, ext_get_or, get_or-take, get_or-drop}
use lib.Pow.{shr-shr, shr_lt}
use lib.Dec.{eqb}
use borrow.Author.Tests.{eqb-true, eqb-false, eq-eqb, ne_eqb}
use Rattle.layout.specs.Bounded.{at, updated}
use Rattle.volume.specs.Tables.{Memory, sector_at, bit_at, memory}
use Rattle.laws.proofs.Bounded.{eq?, updated_here}
use Rattle.laws.proofs.Words.{Bytes}
use Rattle.laws.proofs.Runs.{sets_part}
use Rattle.laws.proofs.Sectors.{sector_length, sector_stored}

pub words_fixed : (xs ys : List ℕ) → length xs ≡ length ys → at xs ≡ at ys → xs ≡ ys
words_fixed xs ys h e = ext_get_or 0 xs ys h (λ i _. ap (λ (f : ℕ → ℕ). f i) e)

-- Byte i stands in sector i / 512.
byte_of : (im : List ℕ) (i : ℕ) → at im i ≡ at (sector_at im (i / 512)) (i % 512)
unfolding sector_at
byte_of im i =
    let where-it-is : i ≡ 512 * (i / 512) + i % 512 = omega arith in
    let low : i % 512 < 512 = omega arith in
    ap (at im) where-it-is ∙ sym (get_or-drop (512 * (i / 512)) im (i % 512) 0)
    ∙ sym (get_or-take 512 (drop (512 * (i / 512)) im) (i % 512) 0 low)

pub image_fixed : (im im' : List ℕ) → length im ≡ length im' → sector_at im ≡ sector_at im' → im ≡ im'
image_fixed im im' h e =
    ext_get_or 0 im im' h
    (λ i _. byte_of im i ∙ ap (λ (f : ℕ → List ℕ). at (f (i / 512)) (i % 512)) e ∙ sym (byte_of im' i))

-- An image in which one sector was stored: the sector's bytes stand there, and every byte outside it is as it was.
pub stored_there : (im im' : List ℕ) (k : ℕ) (b : List ℕ) → length im' ≡ length im → 512 * k + 512 ≤ length im
    → sector_at im' ≡ updated (sector_at im) k b → im' ≡ sets im (512 * k) b
stored_there im im' k b h room e =
    let there : sector_at im' k ≡ b = ap (λ (f : ℕ → List ℕ). f k) e ∙ updated_here (sector_at im) k b in
    let long : length b ≡ 512 = sym (ap length there) ∙ sector_length im' k (omega arith) in
    let as-part : sector_at (sets im (512 * k) b) ≡ updated (sector_at im) k b =
    ap sector_at (sym (sets_part im (512 * k) b 512 (sym long) (omega arith))) ∙ sector_stored im k b room long 512 refl in
    image_fixed im' (sets im (512 * k) b) (h ∙ sym (length-sets im (512 * k) b)) (e ∙ sym as-part)

abbrev bit : ℕ → ℕ → Bool
bit x j = eqb (x / 2 ^ j % 2) 1

-- A digit by the test whether it is 1.
digit_fixed : (a b : ℕ) → a < 2 → b < 2 → eqb a 1 ≡ eqb b 1 → a ≡ b
digit_fixed a b ha hb e =
    ⊎_elim (λ (z : a ≡ 1). let y : b ≡ 1 = eqb-true b 1 (sym e ∙ eq-eqb a 1 z) in omega arith)
    (λ (z : a ≡ 1 → ⊥). let y = eqb-false b 1 (sym e ∙ ne_eqb a 1 z) in
    let p : a ≡ 0 = at_most_0 a ha z in
    let q : b ≡ 0 = at_most_0 b hb y in omega arith) (eq? a 1)
  where
    at_most_0 : (a : ℕ) → a < 2 → (a ≡ 1 → ⊥) → a ≡ 0
    at_most_0 zero h z = refl
    at_most_0 (suc zero) h z = absurd (z refl)
    at_most_0 (suc (suc a)) h z = absurd (let k : suc (suc a) < 2 = h in omega arith)

-- A number of n bits by its bits.
bits_fixed : (n x y : ℕ) → x < 2 ^ n → y < 2 ^ n → ((j : ℕ) → j < n → bit x j ≡ bit y j) → x ≡ y
bits_fixed zero x y hx hy e = omega arith
bits_fixed (suc n) x y hx hy e =
    let half : x / 2 ≡ y / 2 =
    bits_fixed n (x / 2) (y / 2) (shr_lt {n = x} n 1 (rw add-one hx)) (shr_lt {n = y} n 1 (rw add-one hy))
    (λ j h. ap (λ (z : ℕ). eqb (z % 2) 1) (shr-shr x 1 j ∙ ap (λ (k : ℕ). x / 2 ^ k) (one-add j))
    ∙ e (suc j) (omega arith)
    ∙ sym (ap (λ (z : ℕ). eqb (z % 2) 1) (shr-shr y 1 j ∙ ap (λ (k : ℕ). y / 2 ^ k) (one-add j)))) in
    let rest : x / 1 % 2 ≡ y / 1 % 2 = digit_fixed (x / 1 % 2) (y / 1 % 2) (omega arith) (omega arith) (e 0 (omega arith)) in
    omega arith

-- Bit j of byte i is that of sector 8i + j.
bit_of : (us : List ℕ) (i j : ℕ) → j < 8 → bit (at us i) j ≡ bit_at us (8 * i + j)
unfolding bit_at
bit_of us i j h =
    let q : i ≡ (8 * i + j) / 8 = omega arith in
    let r : j ≡ (8 * i + j) % 8 = omega arith in
    ap₂ (λ (a b : ℕ). bit (at us a) b) q r

pub used_fixed : (us us' : List ℕ) → Bytes us → Bytes us' → length us ≡ length us' → bit_at us ≡ bit_at us' → us ≡ us'
used_fixed us us' b b' h e =
    ext_get_or 0 us us' h
    (λ i _. bits_fixed 8 (at us i) (at us' i) (b i) (b' i)
    (λ j k. bit_of us i j k ∙ ap (λ (f : ℕ → Bool). f (8 * i + j)) e ∙ sym (bit_of us' i j k)))

-- All that is lent to a call: two lots of slices with one memory are the same, byte for byte and word for word.
pub memory_fixed : (im mp pl nu us im' mp' pl' nu' us' : List ℕ) → Bytes us → Bytes us'
    → memory im mp pl nu us ≡ memory im' mp' pl' nu' us' → (im ≡ im') × (mp ≡ mp') × (pl ≡ pl') × (nu ≡ nu') × (us ≡ us')
unfolding memory
memory_fixed im mp pl nu us im' mp' pl' nu' us' b b' e = (
  image_fixed im im' (ap (λ (m : Memory). m.lengths.image) e) (ap (λ (m : Memory). m.image) e),
  words_fixed mp mp' (ap (λ (m : Memory). m.lengths.map) e) (ap (λ (m : Memory). m.tables.entry) e),
  words_fixed pl pl' (ap (λ (m : Memory). m.lengths.places) e) (ap (λ (m : Memory). m.tables.place) e),
  words_fixed nu nu' (ap (λ (m : Memory). m.lengths.numbers) e) (ap (λ (m : Memory). m.tables.number) e),
  used_fixed us us' b b' (ap (λ (m : Memory). m.lengths.used) e) (ap (λ (m : Memory). m.tables.is_used) e),
)
