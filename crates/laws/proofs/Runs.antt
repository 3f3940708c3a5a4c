-- A run of elements stored from an index on, as code leaves it: element by element, or as a part that was lent.
use Prim.Native.Nat.{ℕ, zero, suc, ◌+◌, ◌≤◌, ◌<◌}
use mathlib.Core.Path.{◌≡◌, refl, sym, ap, ◌∙◌}
use mathlib.Core.List.{List, [], ◌∷◌, ◌++◌, append_assoc, append-nil}
use native.Mathlib.Omega.{arith}
use native.Mathlib.Nat.{add-zero, add-suc, suc-add, not-suc-le-zero, le_of_suc-le-suc}
use native.Mathlib.Numerals.{add-one}
use lib.ListN.{length, get_or, take, drop, set, length-set}
use lib.Seq.{sets, sets-eq, set-set, set_comm, take-suc, length-take-le, drop-drop, drop-length}

-- A run stored after another is one run.
pub sets_append : (l : List ℕ) (i : ℕ) (xs ys : List ℕ) → sets l i (xs ++ ys) ≡ sets (sets l i xs) (i + length xs) ys
sets_append l i [] ys = rw add-zero
sets_append l i (x ∷ xs) ys = rw (add-suc, ← suc-add) (sets_append (set l i x) (suc i) xs ys)

-- One element more of `src`.
pub sets_next : (l : List ℕ) (i : ℕ) (src : List ℕ) (j : ℕ) → j < length src
    → set (sets l i (take j src)) (i + j) (get_or src j 0) ≡ sets l i (take (j + 1) src)
sets_next l i src j h =
    let long : length (take j src) ≡ j = length-take-le j src (omega arith) in
    rw (add-one, take-suc src j 0, sets_append, long)

-- The whole list is stored over.
pub sets_whole : (l xs : List ℕ) → length xs ≡ length l → sets l 0 xs ≡ xs
sets_whole l xs e =
    let end : 0 + length xs ≡ length l = omega arith in
    rw (sets-eq xs l 0 (omega arith), end, drop-length) (append-nil xs)

-- A part that was lent, and holds xs as it comes back. `size` is what the code gives as its length.
pub sets_part : (l : List ℕ) (a : ℕ) (xs : List ℕ) (size : ℕ) → size ≡ length xs → a + length xs ≤ length l
    → take a l ++ (xs ++ drop size (drop a l)) ≡ sets l a xs
sets_part l a xs size e h = rw (e, sets-eq xs l a h, drop-drop, append_assoc)

-- An element in front of a run.
set_before : (l : List ℕ) (i j v : ℕ) (xs : List ℕ) → i < j → set (sets l j xs) i v ≡ sets (set l i v) j xs
set_before l i j v [] h = refl
set_before l i j v (x ∷ xs) h =
    set_before (set l j x) i (suc j) v xs (omega arith)
    ∙ ap (λ (t : List ℕ). sets t (suc j) xs) (set_comm l j i x v (λ (e : j ≡ i). omega arith))

-- An element of a run that was stored.
set_inside : (l : List ℕ) (i j v : ℕ) (xs : List ℕ) → j < length xs → set (sets l i xs) (i + j) v ≡ sets l i (set xs j v)
set_inside l i j v [] h = absurd (not-suc-le-zero h)
set_inside l i zero v (x ∷ xs) h =
    rw add-zero
    (set_before (set l i x) i (suc i) v xs (omega arith) ∙ ap (λ (t : List ℕ). sets t (suc i) xs) (set-set l i x v))
set_inside l i (suc j) v (x ∷ xs) h = rw (add-suc, ← suc-add) (set_inside (set l i x) (suc i) j v xs (le_of_suc-le-suc h))

-- A run inside a run that was stored.
pub sets_inside : (l : List ℕ) (i j : ℕ) (xs vs : List ℕ) → j + length vs ≤ length xs → sets (sets l i xs) (i + j) vs ≡ sets l i (sets xs j vs)
sets_inside l i j xs [] h = refl
sets_inside l i j xs (v ∷ vs) h =
    ap (λ (t : List ℕ). sets t (suc (i + j)) vs) (set_inside l i j v xs (omega arith))
    ∙ ap (λ (k : ℕ). sets (sets l i (set xs j v)) k vs) (let e : suc (i + j) ≡ i + suc j = omega arith in e)
    ∙ sets_inside l i (suc j) (set xs j v) vs (omega (arith, length-set xs j v))

-- A run over one that is as long.
pub sets_again : (l : List ℕ) (i : ℕ) (xs ys : List ℕ) → length ys ≡ length xs → sets (sets l i xs) i ys ≡ sets l i ys
sets_again l i xs ys e =
    ap (λ (k : ℕ). sets (sets l i xs) k ys) (sym (add-zero i)) ∙ sets_inside l i 0 xs ys (omega arith) ∙ ap (sets l i) (sets_whole xs ys e)

-- A run that leaves the first element.
pub sets_after : (x : ℕ) (l : List ℕ) (i : ℕ) (vs : List ℕ) → sets (x ∷ l) (suc i) vs ≡ x ∷ sets l i vs
sets_after x l i [] = refl
sets_after x l i (v ∷ vs) = sets_after x (set l i v) (suc i) vs
