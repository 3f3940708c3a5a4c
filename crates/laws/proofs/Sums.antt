-- The sum of words with wrapping: by parts, and with the balance.
use Prim.Native.Nat.{ℕ, ◌+◌, ◌%◌, ◌^◌, ◌<◌}
use mathlib.Core.Path.{◌≡◌}
use mathlib.Core.List.{List, [], ◌∷◌, ◌++◌}
use native.Mathlib.Omega.{arith}
use native.Mathlib.Numerals.{add-one}
use lib.ListN.{length, take}
use lib.Seq.{take-suc}
use Rattle.layout.specs.Bounded.{at}
use Rattle.layout.specs.Word.{word_sum, balance}

pub sum_bounded : (ws : List ℕ) → word_sum ws < 2 ^ 32
unfolding word_sum
sum_bounded [] = omega arith
sum_bounded (w ∷ ws) = omega arith

pub sum_append : (xs ys : List ℕ) → word_sum (xs ++ ys) ≡ (word_sum xs + word_sum ys) % 2 ^ 32
unfolding word_sum
sum_append [] ys = omega (arith, sum_bounded ys)
sum_append (x ∷ xs) ys = omega (arith, sum_append xs ys)

-- One word more.
pub sum_next : (ws : List ℕ) (k : ℕ) → k < length ws → word_sum (take (k + 1) ws) ≡ (word_sum (take k ws) + at ws k) % 2 ^ 32
unfolding word_sum
sum_next ws k h = rw (add-one, take-suc ws k 0, sum_append) (omega arith)

-- A word that is zero adds nothing.
pub sum_zero : (xs ys : List ℕ) → word_sum (xs ++ 0 ∷ ys) ≡ word_sum (xs ++ ys)
unfolding word_sum
sum_zero xs ys = rw (sum_append, sum_append) (omega arith)

-- The balance brings the sum to zero.
pub sum_balance : (xs ys : List ℕ) → word_sum (xs ++ balance (word_sum (xs ++ ys)) ∷ ys) ≡ 0
unfolding word_sum
sum_balance xs ys = rw (sum_append, sum_append) (omega arith)
