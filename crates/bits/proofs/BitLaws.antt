-- Setting a bit of a byte, as a table of all bytes and bits that is computed once, and of a used map.
use Prim.Native.Nat.{ℕ, ◌+◌, ◌*◌, ◌-◌, ◌/◌, ◌%◌, ◌^◌, ◌≤◌, ◌<◌}
use mathlib.Core.Path.{◌≡◌, refl, sym, ◌∙◌, ap, fun_ext}
use mathlib.Core.Logic.{⊎_elim}
use mathlib.Core.Bool.{Bool, true, false, cond, beq, not}
use mathlib.Core.List.{List}
use native.Mathlib.Nat.{div-add-mod}
use native.Mathlib.Numerals.{add-one}
use native.Mathlib.Omega.{arith}
use lib.ListN.{length, get_or, set}
use lib.Seq.{get_or-set_same, get_or-set_other}
use lib.Bits.{bit_or, bit_and}
use lib.Dec.{eqb}
use borrow.Author.Tests.{eq-eqb, ne_eqb}
use Rattle.layout.specs.Bounded.{all_below, updated}
use Rattle.volume.specs.Tables.{bit_at, free_sectors}
use Rattle.laws.proofs.Bounded.{eq?, all_below_at, cond_true, cond_false, count_le, count_hit, count_miss}
use Rattle.laws.proofs.Names.{beq_true}

-- A byte in which bit i is put to a value: seen at bit j it is that value at i, and as before elsewhere.
abbrev Put : ℕ → ℕ → ℕ → Bool → Type 0
Put b v i value = (j : ℕ) → j < 8 → eqb (v / 2 ^ j % 2) 1 ≡ cond (eqb j i) value (eqb (b / 2 ^ j % 2) 1)

-- Stored in its byte, it changes that one bit of the map.
put_bit : (us : List ℕ) (k v : ℕ) (value : Bool) → k < 8 * length us → Put (get_or us (k / 8) 0) v (k % 8) value
    → bit_at (set us (k / 8) v) ≡ updated (bit_at us) k value
unfolding bit_at
put_bit us k v value h put =
    fun_ext (λ j.
    ⊎_elim (λ (e : j / 8 ≡ k / 8).
    let at : get_or (set us (k / 8) v) (j / 8) 0 ≡ v = ap (λ (x : ℕ). get_or (set us (k / 8) v) x 0) e ∙ get_or-set_same us (k / 8) v 0 (omega arith) in
    ap (λ (x : ℕ). eqb (x / 2 ^ (j % 8) % 2) 1) at ∙ put (j % 8) (omega arith)
    ∙ ⊎_elim (λ (z : j ≡ k).
    cond_true (eqb (j % 8) (k % 8)) value _ (eq-eqb (j % 8) (k % 8) (ap (λ (x : ℕ). x % 8) z))
    ∙ sym (cond_true (eqb j k) value _ (eq-eqb j k z)))
    (λ (z : j ≡ k → ⊥).
    cond_false (eqb (j % 8) (k % 8)) value _
    (ne_eqb (j % 8) (k % 8) (λ (y : j % 8 ≡ k % 8). z (let a = div-add-mod j 8 in let b = div-add-mod k 8 in omega arith)))
    ∙ ap (λ (x : ℕ). eqb (get_or us x 0 / 2 ^ (j % 8) % 2) 1) (sym e) ∙ sym (cond_false (eqb j k) value _ (ne_eqb j k z)))
    (eq? j k))
    (λ (d : j / 8 ≡ k / 8 → ⊥).
    ap (λ (x : ℕ). eqb (x / 2 ^ (j % 8) % 2) 1) (get_or-set_other us (k / 8) (j / 8) v 0 d)
    ∙ sym (cond_false (eqb j k) value _ (ne_eqb j k (λ (z : j ≡ k). d (ap (λ (x : ℕ). x / 8) z)))))
    (eq? (j / 8) (k / 8)))

-- Every byte, every bit of it put, seen at every bit: computed once for a way of putting.
abbrev Tried : (ℕ → ℕ → ℕ) → Bool → Bool
Tried with value =
    all_below (λ b.
    all_below (λ i.
    all_below (λ j. beq (eqb (with b i / 2 ^ j % 2) 1) (cond (eqb j i) value (eqb (b / 2 ^ j % 2) 1))) 8)
    8)
    256

tried_put : (with : ℕ → ℕ → ℕ) (value : Bool) → Tried with value ≡ true → (b i : ℕ) → b < 256 → i < 8 → Put b (with b i) i value
tried_put with value e b i h g j k =
    beq_true (eqb (with b i / 2 ^ j % 2) 1) (cond (eqb j i) value (eqb (b / 2 ^ j % 2) 1))
    (all_below_at (λ j. beq (eqb (with b i / 2 ^ j % 2) 1) (cond (eqb j i) value (eqb (b / 2 ^ j % 2) 1))) 8
    (all_below_at
    (λ i. all_below (λ j. beq (eqb (with b i / 2 ^ j % 2) 1) (cond (eqb j i) value (eqb (b / 2 ^ j % 2) 1))) 8) 8
    (all_below_at
    (λ b. all_below (λ i. all_below (λ j. beq (eqb (with b i / 2 ^ j % 2) 1) (cond (eqb j i) value (eqb (b / 2 ^ j % 2) 1))) 8) 8) 256 e b h) i g)
    j k)

setting : ℕ → ℕ → ℕ
setting b i = bit_or b ((1 * 2 ^ i) % 256)

set_table : Tried setting true ≡ true
unfolding all_below setting
set_table = refl

pub bit_set : (us : List ℕ) (k : ℕ) → k < 8 * length us → get_or us (k / 8) 0 < 256
    → bit_at (set us (k / 8) (bit_or (get_or us (k / 8) 0) ((1 * 2 ^ (k % 8)) % 256))) ≡ updated (bit_at us) k true
unfolding setting
bit_set us k h b = put_bit us k (setting (get_or us (k / 8) 0) (k % 8)) true h (tried_put setting true set_table (get_or us (k / 8) 0) (k % 8) b (omega arith))

clearing : ℕ → ℕ → ℕ
clearing b i = bit_and b (255 - (1 * 2 ^ i) % 256)

clear_table : Tried clearing false ≡ true
unfolding all_below clearing
clear_table = refl

pub bit_clear : (us : List ℕ) (k : ℕ) → k < 8 * length us → get_or us (k / 8) 0 < 256
    → bit_at (set us (k / 8) (bit_and (get_or us (k / 8) 0) (255 - (1 * 2 ^ (k % 8)) % 256))) ≡ updated (bit_at us) k false
unfolding clearing
bit_clear us k h b =
    put_bit us k (clearing (get_or us (k / 8) 0) (k % 8)) false h (tried_put clearing false clear_table (get_or us (k / 8) 0) (k % 8) b (omega arith))

-- Free sectors counted, one more at a time.
pub free_le : (k : ℕ) (us : List ℕ) → free_sectors k (bit_at us) ≤ k
unfolding free_sectors
free_le k us = count_le (λ j. not (bit_at us j)) k

pub free_hit : (k : ℕ) (us : List ℕ) (b : Bool) → b ≡ bit_at us k → not b ≡ true → free_sectors k (bit_at us) + 1 ≡ free_sectors (k + 1) (bit_at us)
unfolding free_sectors
free_hit k us b e f = rw (add-one, add-one) (sym (count_hit (λ j. not (bit_at us j)) k (ap not (sym e) ∙ f)))

pub free_miss : (k : ℕ) (us : List ℕ) (b : Bool) → b ≡ bit_at us k → not b ≡ false → free_sectors k (bit_at us) ≡ free_sectors (k + 1) (bit_at us)
unfolding free_sectors
free_miss k us b e f = rw add-one (sym (count_miss (λ j. not (bit_at us j)) k (ap not (sym e) ∙ f)))
