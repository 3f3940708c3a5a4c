-- The pieces of the named blocks, flagged, and the branches to the others.
use Rattle.std.specs.Prelude.{ℕ, suc, ◌≤◌, ◌≡◌, false, List, [], length, take}
use Rattle.state.specs.declared.State.{State}
use Rattle.geometry.specs.Geometry.{folding_branches, most_pieces}
use Rattle.layout.specs.MapSector.{View}
use Rattle.volume.specs.Tables.{tables_of}
use Rattle.volume.specs.Commit.{touches, listing}
use Rattle.pieces.specs.Arrays.{flagged, unflagged}

-- The flags say which pieces are touched; the first of the branches to the others are listed, at most 25.
pub record Untouched (s : State) (pl nu : List ℕ) (view : View) (blocks touched branches : List ℕ) (listed : ℕ) : Type 0 where
  pub touching : flagged touched ≡ touches blocks
  pub flags : length touched ≡ most_pieces
  pub room : length branches ≡ folding_branches
  pub most : listed ≤ folding_branches
  pub listing_is : take listed branches
      ≡ take folding_branches (listing (length nu) (tables_of [] pl nu []) view (unflagged (length nu) touched) (length nu) (suc s.number) (λ _. false))
