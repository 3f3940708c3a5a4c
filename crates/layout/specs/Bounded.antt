-- Tests, counts and searches over the numbers below a bound, and over lists. Those over a bound recurse on it, so that
-- each says what a loop that counts upwards has found so far.
use Rattle.std.specs.Prelude.{ℕ, zero, suc, ◌+◌, Bool, true, false, cond, not, ◌&&◌, ◌||◌, List, [], ◌∷◌, get_or, eqb, ltb}

-- The number at an index, 0 past the end.
abbrev pub at : List ℕ → ℕ → ℕ
at xs i = get_or xs i 0

unfoldable pub all_below : (ℕ → Bool) → ℕ → Bool
all_below test zero = true
all_below test (suc n) = all_below test n && test n

unfoldable pub any_below : (ℕ → Bool) → ℕ → Bool
any_below test zero = false
any_below test (suc n) = any_below test n || test n

-- How many of 0 to n - 1 pass the test.
unfoldable pub count_below : (ℕ → Bool) → ℕ → ℕ
count_below test zero = 0
count_below test (suc n) = let before = count_below test n in cond (test n) (suc before) before

-- The sum of f over 0 to n - 1.
unfoldable pub sum_below : (ℕ → ℕ) → ℕ → ℕ
sum_below f zero = 0
sum_below f (suc n) = sum_below f n + f n

-- The one of 0 to n - 1 with the greatest key, of equal ones the lowest. A key of 0 stands for "not a candidate".
unfoldable pub best : (ℕ → ℕ) → ℕ → ℕ
best key zero = 0
best key (suc n) = let before = best key n in cond (ltb (key before) (key n)) n before

unfoldable pub all : (ℕ → Bool) → List ℕ → Bool
all test [] = true
all test (x ∷ xs) = test x && all test xs

unfoldable pub elem : ℕ → List ℕ → Bool
elem k [] = false
elem k (x ∷ xs) = eqb k x || elem k xs

-- No number stands twice in the list.
unfoldable pub distinct : List ℕ → Bool
distinct [] = true
distinct (x ∷ xs) = not (elem x xs) && distinct xs

-- The two lists are the same.
unfoldable pub same : List ℕ → List ℕ → Bool
same [] [] = true
same [] (y ∷ ys) = false
same (x ∷ xs) [] = false
same (x ∷ xs) (y ∷ ys) = eqb x y && same xs ys

abbrev pub always : ℕ → Bool
always k = true

-- `others`, and in front of them the values of those of 0 to n - 1 that pass the test.
unfoldable pub gathered : (ℕ → Bool) → (ℕ → ℕ) → List ℕ → ℕ → List ℕ
gathered test value others zero = others
gathered test value others (suc n) =
    let before = gathered test value others n in
    cond (test n) (value n ∷ before) before

abbrev pub is_zero : ℕ → Bool
is_zero x = eqb x 0

module _ {A : Type 0} where
  -- f at n numbers from `from`.
  unfoldable pub list_from : (ℕ → A) → ℕ → ℕ → List A
  list_from f from zero = []
  list_from f from (suc n) = f from ∷ list_from f (suc from) n

  -- f below n, and `other` from there on. It is a list inside, so that each value is computed once.
  unfoldable pub tabled : A → ℕ → (ℕ → A) → ℕ → A
  tabled other n f = let values = list_from f 0 n in λ k. get_or values k other

  -- f with another value at one place.
  abbrev pub updated : (ℕ → A) → ℕ → A → ℕ → A
  updated f place value k = cond (eqb k place) value (f k)

  -- f with the values of 0 to n - 1 put at their places, in order.
  unfoldable pub updates : (ℕ → A) → (ℕ → ℕ) → (ℕ → A) → ℕ → ℕ → A
  updates f place value zero = f
  updates f place value (suc n) = updated (updates f place value n) (place n) (value n)
