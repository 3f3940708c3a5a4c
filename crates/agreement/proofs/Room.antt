-- How many sectors are free: all but sector 0 and those that are named.
use Prim.Native.Nat.{ℕ, zero, suc, ◌+◌, min, ◌≤◌, ◌<◌}
use mathlib.Core.Path.{◌≡◌, refl, sym, ◌∙◌, ap}
use mathlib.Core.Logic.{⊎_elim}
use mathlib.Core.Bool.{Bool, true, false, not, ◌||◌}
use mathlib.Core.List.{List, [], ◌∷◌}
use native.Mathlib.Nat.{not-suc-le-zero}
use native.Mathlib.Omega.{arith}
use lib.ListN.{length}
use lib.Dec.{eqb}
use borrow.Author.Tests.{eq-eqb, ne_eqb}
use Rattle.geometry.specs.Geometry.{pieces_for}
use Rattle.layout.specs.Bounded.{always, count_below, elem, distinct, gathered, updated, updates}
use Rattle.layout.specs.Entry.{is_empty, sector_of}
use Rattle.volume.specs.Tables.{named_by, used_by, free_sectors}
use Rattle.laws.proofs.Bounded.{bool?, lt?, eq?, clash, elem_here, elem_there, distinct_head, distinct_rest, count_hit, count_near, count_less, count_fewer, gathered_length, updated_here, updated_other}

none_used : (m : ℕ) → free_sectors (suc m) (used_by []) ≡ m
unfolding free_sectors used_by elem count_below
none_used zero = refl
none_used (suc m) =
    count_hit (λ k. not (eqb k 0 || false)) (suc m) (rw (ne_eqb (suc m) 0 (λ (e : suc m ≡ 0). omega arith)) refl)
    ∙ ap suc (none_used m)

-- One more sector named is one fewer free.
one_fewer : (n x : ℕ) (xs : List ℕ) → 1 ≤ x → x < n → elem x xs ≡ false → free_sectors n (used_by xs) ≡ suc (free_sectors n (used_by (x ∷ xs)))
unfolding free_sectors used_by elem
one_fewer n x xs low high out =
    let before : ℕ → Bool = λ k. not (eqb k 0 || elem k xs) in
    let now : ℕ → Bool = λ k. not (eqb k 0 || (eqb k x || elem k xs)) in
    let near = count_near before now n x
    (λ k (d : k ≡ x → ⊥). rw (ne_eqb k x d) refl) in
    let less = count_less now before n x
    (λ k b e.
    ⊎_elim (λ (z : eqb k 0 ≡ true). clash (now k) e (rw z refl))
    (λ (z : eqb k 0 ≡ false).
    ⊎_elim (λ (y : elem k xs ≡ true). clash (now k) e (rw (z, y) (gone (eqb k x))))
    (λ (y : elem k xs ≡ false). rw (z, y) refl) (bool? (elem k xs)))
    (bool? (eqb k 0)))
    high
    (rw (ne_eqb x 0 (λ (e : x ≡ 0). omega arith), eq-eqb x x refl) refl)
    (rw (ne_eqb x 0 (λ (e : x ≡ 0). omega arith), out) refl) in
    omega arith
  where
    gone : (b : Bool) → not (b || true) ≡ false
    gone true = refl
    gone false = refl

pub free_count : (n : ℕ) (xs : List ℕ) → 1 ≤ n → ((k : ℕ) → elem k xs ≡ true → (1 ≤ k) × (k < n)) → distinct xs ≡ true
    → free_sectors n (used_by xs) + suc (length xs) ≡ n
free_count zero xs h inside d = absurd (not-suc-le-zero h)
free_count (suc m) [] h inside d = rw (none_used m) (omega arith)
free_count (suc m) (x ∷ xs) h inside d =
    let r = free_count (suc m) xs h (λ k e. inside k (elem_there k x xs e)) (distinct_rest x xs d) in
    let at = inside x (elem_here x xs) in
    let one = one_fewer (suc m) x xs at.0 at.1 (distinct_head x xs d) in
    omega arith

pub named_length : (l : ℕ) (entry place : ℕ → ℕ)
    → length (named_by l entry place) ≡ count_below (λ b. not (is_empty (entry b))) l + (count_below always (pieces_for l) + 0)
unfolding named_by
named_length l entry place =
    gathered_length (λ b. not (is_empty (entry b))) (λ b. sector_of (entry b)) (gathered always place [] (pieces_for l)) l
    ∙ ap (λ (x : ℕ). count_below (λ b. not (is_empty (entry b))) l + x) (gathered_length always place [] (pieces_for l))

-- Entries that are changed at some blocks, of which those past d become empty: at most d more are full.
pub full_count : (l : ℕ) (entry : ℕ → ℕ) (block value : ℕ → ℕ) (d i : ℕ) → ((j : ℕ) → d ≤ j → j < i → value j ≡ 0)
    → count_below (λ b. not (is_empty (updates entry block value i b))) l ≤ count_below (λ b. not (is_empty (entry b))) l + min i d
unfolding updates
full_count l entry block value d zero f = omega arith
full_count l entry block value d (suc i) f =
    let r = full_count l entry block value d i (λ j a b. f j a (omega arith)) in
    let now : ℕ → Bool = λ b. not (is_empty (updated (updates entry block value i) (block i) (value i) b)) in
    let before : ℕ → Bool = λ b. not (is_empty (updates entry block value i b)) in
    ⊎_elim (λ (z : i < d).
    let near = count_near now before l (block i)
    (λ k (e : k ≡ block i → ⊥). ap (λ (x : ℕ). not (is_empty x)) (updated_other (updates entry block value i) (block i) k (value i) e)) in
    omega arith)
    (λ (z : d ≤ i).
    let fewer = count_fewer now before l
    (λ k b e.
    ⊎_elim (λ (y : k ≡ block i).
    clash (now k) e (rw (y, updated_here (updates entry block value i) (block i) (value i), f i z (omega arith)) refl))
    (λ (y : k ≡ block i → ⊥).
    sym (ap (λ (x : ℕ). not (is_empty x)) (updated_other (updates entry block value i) (block i) k (value i) y)) ∙ e)
    (eq? k (block i))) in
    omega arith)
    (lt? i d)
