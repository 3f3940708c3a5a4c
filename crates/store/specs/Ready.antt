-- What stands before a commit's first store, and stays as it is while the stores are made.
use Rattle.std.specs.Prelude.{ℕ, ◌+◌, ◌≤◌, ◌<◌, ◌^◌, ◌≡◌, true, List, length}
use Rattle.state.specs.declared.State.{State}
use Rattle.geometry.specs.Geometry.{branch_room, pieces_for, piece_of, most_pieces}
use Rattle.layout.specs.Bounded.{at, count_below}
use Rattle.pieces.specs.Arrays.{flagged}

-- The named blocks are below L and ascend, their pieces are flagged, and each has its entry; as many sectors are taken as are
-- stored, and they are below N; the first member's branches fit; each member's piece is flagged; and the numbers suffice.
pub record Ready (s : State) (map blocks entries taken : List ℕ) (data_sectors : ℕ) (branches written : List ℕ) (members : ℕ) : Type 0 where
  pub whole : length map ≡ s.geometry.l
  pub enough : length blocks ≤ length entries
  pub ascending : (i j : ℕ) → i < j → j < length blocks → at blocks i < at blocks j
  pub touched : (i : ℕ) → i < length blocks → flagged written (piece_of (at blocks i)) ≡ true
  pub inside : (i : ℕ) → i < length blocks → at blocks i < s.geometry.l
  pub below : (i : ℕ) → i < length taken → at taken i < s.geometry.n
  pub taken_all : data_sectors + members ≡ length taken
  pub room : length branches ≤ branch_room
  pub numbers : s.number + members < 2 ^ 32
  pub most : pieces_for s.geometry.l ≤ most_pieces
  pub flags : pieces_for s.geometry.l ≤ length written
  pub counted : members ≡ count_below (flagged written) (pieces_for s.geometry.l)
