-- The walk as the arrays of the code hold it: what waits.
use Rattle.std.specs.Prelude.{ℕ, ◌+◌, ◌≤◌, ◌≡◌, Bool, ◌&&◌, List, length, set, ltb}
use Rattle.geometry.specs.declared.Geometry.{Geometry}
use Rattle.geometry.specs.Geometry.{most_pieces}
use Rattle.layout.specs.Bounded.{at, is_zero}
use Rattle.layout.specs.Word.{words_of}
use Rattle.layout.specs.MapSector.{View, valid}
use Rattle.volume.specs.Recover.{Walk, waiting_number}
use Rattle.tournament.specs.Tournament.{tree_length, ranked, key_at, Replayed, Keyed}

-- The sectors that wait, and the one taken of each piece that is done.
abbrev pub walk_of : List ℕ → List ℕ → Walk
walk_of waiting taken = record { waiting = at waiting; taken = at taken }

-- Whether a target with this number and piece waits if it is signed. The numbers of what waits are the keys of a tournament.
unfoldable pub may_wait : List ℕ → List ℕ → ℕ → ℕ → ℕ → Bool
may_wait tree taken holder number p =
    ltb p (length taken) && ltb number holder && is_zero (at taken p) && ltb (key_at (length taken) tree p) number

-- Whether a target with the bytes s waits.
unfoldable pub does_wait : Geometry → List ℕ → List ℕ → ℕ → List ℕ → Bool
does_wait g tree taken holder s = may_wait tree taken holder (at (words_of s) 2) (at (words_of s) 4) && valid g s (words_of s)

-- With what waits stands a tournament of its numbers.
pub record Waits (pieces : ℕ) (view : View) (waiting tree taken : List ℕ) : Type 0 where
  pub few : pieces ≤ most_pieces
  pub waiting_long : length waiting ≡ pieces
  pub tree_long : length tree ≡ tree_length
  pub taken_long : length taken ≡ pieces
  pub keyed : Keyed pieces (waiting_number view (walk_of waiting taken)) tree

-- Sector k with the bytes s is put in where it waits for its piece.
pub record Put (s : List ℕ) (k : ℕ) (waiting tree waiting' tree' : List ℕ) : Type 0 where
  pub placed : waiting' ≡ set waiting (at (words_of s) 4) k
  pub replayed : Replayed (length waiting) (set tree (length waiting + at (words_of s) 4) (ranked (length waiting) (at (words_of s) 4) (at (words_of s) 2))) tree'
