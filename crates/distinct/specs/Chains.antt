-- Numbers chained by group: a group's chain leads from its last number back to its first.
use Rattle.std.specs.Prelude.{ℕ, zero, suc, ◌/◌, ◌%◌, ◌<◌, ◌≡◌, cond, List, length, eqb}
use Rattle.layout.specs.Bounded.{at}

-- A group for each number of 15 bits, and in it a rest for each of 17.
abbrev pub groups : ℕ
groups = 32768

abbrev pub rests : ℕ
rests = 131072

-- The group of the number at an index is its upper 15 bits.
abbrev pub group_of : List ℕ → ℕ → ℕ
group_of xs i = at xs i / rests

-- The other 17, in which numbers of one group differ.
abbrev pub rest_of : List ℕ → ℕ → ℕ
rest_of xs i = at xs i % rests

-- One more than the last index below n that is of group g, 0 for none.
unfoldable pub last_in : (ℕ → ℕ) → ℕ → ℕ → ℕ
last_in group g zero = 0
last_in group g (suc n) = cond (eqb (group n) g) (suc n) (last_in group g n)

-- From each number to the one before it in its group.
abbrev pub Back : List ℕ → List ℕ → Type 0
Back xs next = (i : ℕ) → i < length xs → at next i ≡ last_in (group_of xs) (group_of xs i) i

pub record Linked (xs heads next : List ℕ) : Type 0 where
  pub ends : (g : ℕ) → g < groups → at heads g ≡ last_in (group_of xs) g (length xs)
  pub back : Back xs next

-- The numbers of group g are all different.
abbrev pub Apart : List ℕ → ℕ → Type 0
Apart xs g = (i j : ℕ) → i < j → j < length xs → group_of xs i ≡ g → group_of xs j ≡ g → rest_of xs i ≡ rest_of xs j → ⊥
