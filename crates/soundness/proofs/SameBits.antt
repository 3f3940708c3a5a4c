-- Two used maps whose bytes are the same have the same bits, and two bytes that differ have a bit that differs: a byte is the sum of
-- its bits, which is computed once for all bytes.
use Prim.Native.Nat.{ℕ, zero, suc, ◌+◌, ◌*◌, ◌-◌, ◌/◌, ◌%◌, ◌^◌, ◌≤◌, ◌<◌}
use mathlib.Core.Path.{◌≡◌, refl, sym, ◌∙◌, ap, subst}
use mathlib.Core.Logic.{⊎_elim}
use mathlib.Core.Bool.{Bool, true, false, cond, ◌&&◌, beq}
use mathlib.Core.List.{List}
use native.Mathlib.Omega.{arith}
use lib.ListN.{length}
use lib.Dec.{eqb}
use borrow.Author.Tests.{eqb-true, eq-eqb}
use Rattle.layout.specs.Bounded.{at, all_below}
use Rattle.volume.specs.Tables.{bit_at}
use Rattle.laws.proofs.Bounded.{lt?, and_l, and_r, and_i, all_below_at, all_below_is}
use Rattle.laws.proofs.Names.{beq_true}

-- The number that n bits give.
sum : (ℕ → Bool) → ℕ → ℕ
sum f zero = 0
sum f (suc n) = sum f n + cond (f n) (2 ^ n) 0

sum_same : (f g : ℕ → Bool) (n : ℕ) → ((j : ℕ) → j < n → f j ≡ g j) → sum f n ≡ sum g n
unfolding sum
sum_same f g zero h = refl
sum_same f g (suc n) h =
    ap (λ (x : ℕ). x + cond (f n) (2 ^ n) 0) (sum_same f g n (λ j k. h j (omega arith)))
    ∙ ap (λ (b : Bool). sum g n + cond b (2 ^ n) 0) (h n (omega arith))

bit : ℕ → ℕ → Bool
bit b j = eqb (b / 2 ^ j % 2) 1

sum_table : all_below (λ b. eqb (sum (bit b) 8) b) 256 ≡ true
unfolding all_below sum bit
sum_table = refl

same_byte : (b v : ℕ) → b < 256 → v < 256 → ((j : ℕ) → j < 8 → bit b j ≡ bit v j) → b ≡ v
same_byte b v h g f =
    sym (eqb-true (sum (bit b) 8) b (all_below_at (λ b. eqb (sum (bit b) 8) b) 256 sum_table b h)) ∙ sum_same (bit b) (bit v) 8 f
    ∙ eqb-true (sum (bit v) 8) v (all_below_at (λ b. eqb (sum (bit b) 8) b) 256 sum_table v g)

itself : (a : Bool) → beq a a ≡ true
itself true = refl
itself false = refl

beq_same : (a b : Bool) → a ≡ b → beq a b ≡ true
beq_same a b e = subst (λ (x : Bool). beq a x ≡ true) e (itself a)

still_both : (a b : Bool) → (a ≡ true → b ≡ true) → (b ≡ true → a ≡ true) → a ≡ b
still_both true b f g = sym (f refl)
still_both false true f g = g refl
still_both false false f g = refl

-- So far the bits are the same, a byte more.
module _ (us ms : List ℕ) where
  abbrev Same : ℕ → Bool
  Same k = beq (bit_at us k) (bit_at ms k)

  byte_bits : (i : ℕ) → at us i ≡ at ms i → (j : ℕ) → j < 8 → Same (8 * i + j) ≡ true
  unfolding bit_at
  byte_bits i e j h =
      let q : (8 * i + j) / 8 ≡ i = omega arith in
      beq_same (bit_at us (8 * i + j)) (bit_at ms (8 * i + j))
      (ap (λ (x : ℕ). eqb (at us x / 2 ^ ((8 * i + j) % 8) % 2) 1) q ∙ ap (λ (x : ℕ). eqb (x / 2 ^ ((8 * i + j) % 8) % 2) 1) e
      ∙ ap (λ (x : ℕ). eqb (at ms x / 2 ^ ((8 * i + j) % 8) % 2) 1) (sym q))

  bits_byte : (i : ℕ) → at us i < 256 → at ms i < 256 → ((j : ℕ) → j < 8 → Same (8 * i + j) ≡ true) → at us i ≡ at ms i
  unfolding bit_at bit
  bits_byte i a b f =
      same_byte (at us i) (at ms i) a b (λ j k.
      let q : (8 * i + j) / 8 ≡ i = omega arith in
      let r : (8 * i + j) % 8 ≡ j = omega arith in
      let e = beq_true (bit_at us (8 * i + j)) (bit_at ms (8 * i + j)) (f j k) in
      rw (q, r) at e)

  pub same_none : true ≡ all_below Same (8 * 0)
  unfolding all_below
  same_none = refl

  pub same_more : (i : ℕ) → at us i < 256 → at ms i < 256 → (good good' : Bool) → good ≡ all_below Same (8 * i) → good' ≡ (good && eqb (at us i) (at ms i))
      → good' ≡ all_below Same (8 * (i + 1))
  same_more i a b good good' e f =
      f ∙ still_both (good && eqb (at us i) (at ms i)) (all_below Same (8 * (i + 1)))
      (λ z.
      let before = sym e ∙ and_l good (eqb (at us i) (at ms i)) z in
      let here = eqb-true (at us i) (at ms i) (and_r good (eqb (at us i) (at ms i)) z) in
      all_below_is Same (8 * (i + 1)) (λ k h.
      ⊎_elim (λ (y : k < 8 * i). all_below_at Same (8 * i) before k y)
      (λ (y : 8 * i ≤ k).
      let at_k : 8 * i + (k - 8 * i) ≡ k = omega arith in
      subst (λ (x : ℕ). Same x ≡ true) at_k (byte_bits i here (k - 8 * i) (omega arith)))
      (lt? k (8 * i))))
      (λ z.
      and_i good (eqb (at us i) (at ms i))
      (e ∙ all_below_is Same (8 * i) (λ k h. all_below_at Same (8 * (i + 1)) z k (omega arith)))
      (eq-eqb (at us i) (at ms i) (bits_byte i a b (λ j h. all_below_at Same (8 * (i + 1)) z (8 * i + j) (omega arith)))))

  pub same_all : (i : ℕ) (good : Bool) → i ≡ length us → good ≡ all_below Same (8 * i) → good ≡ all_below Same (8 * length us)
  same_all i good e f = f ∙ ap (λ (x : ℕ). all_below Same (8 * x)) e
