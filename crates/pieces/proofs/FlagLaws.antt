-- Flags of pieces, set one at a time.
use Prim.Native.Nat.{ℕ, zero, suc, ◌+◌, ◌-◌, ◌≤◌, ◌<◌}
use Rattle.std.specs.List.{count_by}
use Rattle.std.proofs.lemmas.List.Sums.{count_by_more_yes, count_by_more_no}
use mathlib.Core.Path.{◌≡◌, refl, sym, ◌∙◌, ap, fun_ext}
use mathlib.Core.Logic.{⊎_elim}
use mathlib.Core.Bool.{Bool, true, false, ◌||◌}
use mathlib.Core.List.{List, ◌++◌}
use native.Mathlib.Numerals.{add-one}
use native.Mathlib.Omega.{arith}
use lib.ListN.{length, get_or, set, take, drop, replicate, length-replicate, get_or-replicate, get_or-append}
use lib.Seq.{get_or-set_same, get_or-set_other, get_or-append-add, get_or-drop, length-take-le}
use lib.Dec.{eqb, ltb}
use borrow.Author.Tests.{eq-eqb, ne_eqb, lt-ltb, le-ltb}
use Rattle.laws.proofs.Filling.{zeros_get}
use Rattle.geometry.specs.Geometry.{piece_of}
use Rattle.layout.specs.Bounded.{at, any_below, count_below, updated}
use Rattle.volume.specs.Commit.{touches}
use Rattle.laws.proofs.Bounded.{bool?, lt?, eq?, count_hit, count_miss}
use Rattle.pieces.specs.Arrays.{flagged}

pub none_flagged : (flags : List ℕ) (n : ℕ) → flags ≡ replicate n 0 → flagged flags ≡ (λ _. false)
unfolding flagged
none_flagged flags n e = ap flagged e ∙ fun_ext (λ q. ap (λ (x : ℕ). eqb x 1) (zeros_get n q))

pub flag_set : (flags : List ℕ) (p : ℕ) → p < length flags → flagged (set flags p 1) ≡ updated (flagged flags) p true
unfolding flagged
flag_set flags p h =
    fun_ext (λ q.
    ⊎_elim (λ (e : q ≡ p).
    ap (λ (x : ℕ). eqb (get_or (set flags p 1) x 0) 1) e ∙ ap (λ (x : ℕ). eqb x 1) (get_or-set_same flags p 1 0 h) ∙ rw (eq-eqb q p e) refl)
    (λ (d : q ≡ p → ⊥). ap (λ (x : ℕ). eqb x 1) (get_or-set_other flags p q 1 0 d) ∙ rw (ne_eqb q p d) refl)
    (eq? q p))

or_true : (a : Bool) → true ≡ (a || true)
or_true true = refl
or_true false = refl

or_false : (a : Bool) → a ≡ (a || false)
or_false true = refl
or_false false = refl

-- The pieces touched by the first i blocks.
abbrev pub touched_by : List ℕ → ℕ → ℕ → Bool
touched_by blocks i q = any_below (λ j. eqb (piece_of (at blocks j)) q) i

pub touched_none : (flags blocks : List ℕ) (n : ℕ) → flags ≡ replicate n 0 → flagged flags ≡ touched_by blocks 0
unfolding any_below
touched_none flags blocks n e = none_flagged flags n e

pub touched_more : (flags blocks : List ℕ) (i p : ℕ) → p ≡ piece_of (at blocks i) → p < length flags → flagged flags ≡ touched_by blocks i
    → flagged (set flags p 1) ≡ touched_by blocks (i + 1)
unfolding any_below
touched_more flags blocks i p e h f =
    flag_set flags p h ∙ ap (λ (bits : ℕ → Bool). updated bits p true) f
    ∙ rw add-one (fun_ext (λ q.
    ⊎_elim (λ (z : q ≡ p). rw (eq-eqb q p z, eq-eqb (piece_of (at blocks i)) q (sym e ∙ sym z)) (or_true (touched_by blocks i q)))
    (λ (z : q ≡ p → ⊥). rw (ne_eqb q p z, ne_eqb (piece_of (at blocks i)) q (λ (y : piece_of (at blocks i) ≡ q). z (sym y ∙ sym e))) (or_false (touched_by blocks i q)))
    (eq? q p)))

pub touched_all : (flags blocks : List ℕ) (i : ℕ) → i ≡ length blocks → flagged flags ≡ touched_by blocks i → flagged flags ≡ touches blocks
unfolding touches
touched_all flags blocks i e f = f ∙ ap {B = ℕ → Bool} (λ (x : ℕ). λ q. touched_by blocks x q) e

-- Every flag below a bound.
pub flagged_below : (flags front : List ℕ) (n : ℕ) → n ≤ length flags → front ≡ replicate (length (take n flags)) 1
    → flagged (front ++ drop n flags) ≡ (λ q. ltb q n || flagged flags q)
unfolding flagged
flagged_below flags front n h f =
    let e : front ≡ replicate n 1 = f ∙ ap (λ (k : ℕ). replicate k 1) (length-take-le n flags h) in
    let len : length front ≡ n = ap length e ∙ length-replicate n 1 in
    fun_ext (λ q.
    ⊎_elim (λ (k : q < n).
    rw (lt-ltb q n k)
    (ap (λ (x : ℕ). eqb x 1) (get_or-append front (drop n flags) 0 q (omega arith) ∙ ap (λ (xs : List ℕ). get_or xs q 0) e ∙ get_or-replicate n q 1 0 k)))
    (λ (k : n ≤ q).
    rw (le-ltb q n k)
    (ap (λ (x : ℕ). eqb x 1)
    (ap (λ (i : ℕ). get_or (front ++ drop n flags) i 0) (let i : q ≡ length front + (q - n) = omega arith in i)
    ∙ get_or-append-add front (drop n flags) (q - n) 0 ∙ get_or-drop n flags (q - n) 0
    ∙ ap (λ (i : ℕ). get_or flags i 0) (let i : n + (q - n) ≡ q = omega arith in i))))
    (lt? q n))

-- Counted.
pub flags_counted : (flags : List ℕ) (n : ℕ) → n ≤ length flags → count_by (λ f. eqb f 1) (take n flags) ≡ count_below (flagged flags) n
unfolding flagged count_below
flags_counted flags zero h = refl
flags_counted flags (suc n) h =
    rw (← add-one n)
    (⊎_elim (λ (e : eqb (at flags n) 1 ≡ true). count_by_more_yes (λ f. eqb f 1) flags n 0 (omega arith) e ∙ add-one _ ∙ ap suc (flags_counted flags n (omega arith)) ∙ sym (count_hit (flagged flags) n e))
    (λ (e : eqb (at flags n) 1 ≡ false). count_by_more_no (λ f. eqb f 1) flags n 0 (omega arith) e ∙ flags_counted flags n (omega arith) ∙ sym (count_miss (flagged flags) n e))
    (bool? (eqb (at flags n) 1)))
