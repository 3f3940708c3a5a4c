-- A tournament of n keys: entry q stands at place n + q, and each place from 1 to n - 1 holds the greater of the two at twice that
-- place and just after it. So place 1 holds the greatest entry.
use Rattle.std.specs.Prelude.{ℕ, ◌+◌, ◌*◌, ◌-◌, ◌/◌, ◌%◌, ◌≤◌, ◌<◌, ◌≡◌, cond, List, set, ltb}
use Rattle.geometry.specs.Geometry.{most_pieces}
use Rattle.layout.specs.Bounded.{at, best}

-- The places of the largest tournament: two for each entry.
abbrev pub tree_length : ℕ
tree_length = 2 * most_pieces

unfoldable pub greater : ℕ → ℕ → ℕ
greater a b = cond (ltb a b) b a

-- What stands for entry q: its key, and below its unit what puts the lowest of equal ones first.
abbrev pub ranked : ℕ → ℕ → ℕ → ℕ
ranked n q key = most_pieces * key + (n - 1 - q)

-- The key that entry q holds.
unfoldable pub key_at : ℕ → List ℕ → ℕ → ℕ
key_at n tree q = at tree (n + q) / most_pieces

-- With the first entry struck out: its key is 0, and its matches are as they were.
abbrev pub first_struck : ℕ → List ℕ → List ℕ
first_struck n tree = set tree (n + best (key_at n tree) n) (ranked n (best (key_at n tree) n) 0)

-- The keys below a bound; 0 for the others.
unfoldable pub below : ℕ → (ℕ → ℕ) → ℕ → ℕ
below bound key q = cond (ltb (key q) bound) (key q) 0

-- The match at place k is played.
abbrev pub Played : List ℕ → ℕ → Type 0
Played tree k = at tree k ≡ greater (at tree (2 * k)) (at tree (2 * k + 1))

-- All matches are played, and each entry stands at its place.
pub record Tournament (n : ℕ) (tree : List ℕ) : Type 0 where
  pub played : (k : ℕ) → 1 ≤ k → k < n → Played tree k
  pub entered : (q : ℕ) → q < n → at tree (n + q) % most_pieces ≡ n - 1 - q

-- The matches among n entries are all played, and the entries are kept.
pub record Replayed (n : ℕ) (before after : List ℕ) : Type 0 where
  pub played : (k : ℕ) → 1 ≤ k → k < n → Played after k
  pub kept : (i : ℕ) → n ≤ i → at after i ≡ at before i

-- The entries hold these keys.
pub record Keyed (n : ℕ) (key : ℕ → ℕ) (tree : List ℕ) : Type 0 where
  pub tournament : Tournament n tree
  pub keys : (q : ℕ) → q < n → key_at n tree q ≡ key q
