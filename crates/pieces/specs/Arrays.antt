-- A commit as the arrays of the code hold it: flags of pieces, the plan, the change, and what is known of the live sectors.
use Rattle.std.specs.Prelude.{ℕ, ◌+◌, ◌≤◌, ◌<◌, ◌^◌, ◌≡◌, Bool, true, false, not, ◌&&◌, List, [], length, take, eqb}
use Rattle.geometry.specs.declared.Geometry.{Geometry}
use Rattle.geometry.specs.Geometry.{pieces_for, piece_of, branch_room}
use Rattle.layout.specs.Bounded.{at, any_below, count_below, tabled}
use Rattle.layout.specs.Word.{words_of}
use Rattle.layout.specs.MapSector.{valid}
use Rattle.layout.specs.Entry.{is_empty, sector_of, stored}
use Rattle.volume.specs.Tables.{sector_at}
use Rattle.volume.specs.Store.{Store}
use Rattle.volume.specs.Commit.{Change, Plan}
use Rattle.power.specs.Power.{made}

-- A piece is flagged by 1.
unfoldable pub flagged : List ℕ → ℕ → Bool
flagged flags q = eqb (at flags q) 1

-- The pieces that are not flagged.
unfoldable pub unflagged : ℕ → List ℕ → ℕ → Bool
unflagged pieces flags = tabled false pieces (λ q. not (flagged flags q))

-- Each live place is a sector from 1 to N - 1 that is signed with its piece.
pub record Live (g : Geometry) (image : ℕ → List ℕ) (place : ℕ → ℕ) (pieces : ℕ) : Type 0 where
  pub low : (q : ℕ) → q < pieces → 1 ≤ place q
  pub high : (q : ℕ) → q < pieces → place q < g.n
  pub signed : (q : ℕ) → q < pieces → valid g (image (place q)) (words_of (image (place q))) ≡ true
  pub piece : (q : ℕ) → q < pieces → at (words_of (image (place q))) 4 ≡ q

-- The plan: the first member's branches, the flags of the pieces written, the counts, the sectors taken, and how many sectors
-- were skipped for those of them that are stored. Whether it folds is not asked any more.
abbrev pub plan_of : List ℕ → List ℕ → ℕ → ℕ → List ℕ → ℕ → Plan
plan_of branches written members data_sectors places skipped =
    record {
      fold = false;
      branches = branches;
      written = flagged written;
      members = members;
      data_sectors = data_sectors;
      places = places;
      skipped = λ _. skipped;
    }

-- The change, with the new entry of each named block.
abbrev pub change_of : List ℕ → List ℕ → ℕ → Change
change_of blocks entries data_sectors =
    record { blocks = blocks; data_sectors = data_sectors; content = λ _. []; entry = λ i _. at entries i }

-- The store of block i of a run of bytes, flipped where it begins with the mark.
abbrev pub block_store : List ℕ → List ℕ → ℕ → Store
block_store places bytes i = record { sector = at places i; bytes = stored (sector_at bytes i) }

-- Used bits without the sectors of those below n that pass the test.
unfoldable pub without : (ℕ → Bool) → (ℕ → Bool) → (ℕ → ℕ) → ℕ → ℕ → Bool
without bits test sector n k = bits k && not (any_below (λ i. test i && eqb k (sector i)) n)

-- What the stores and the change of the tables rely on: the named blocks are below L and ascend, and their pieces are
-- flagged; each data sector's block gets an entry that names it, and each other block is emptied; as many sectors are taken
-- as are written, and they are below N; the flags past P are clear; and the numbers suffice.
pub record Settling (g : Geometry) (number : ℕ) (blocks entries taken : List ℕ) (data_sectors : ℕ) (written : List ℕ) : Type 0 where
  pub inside : (i : ℕ) → i < length blocks → at blocks i < g.l
  pub ascending : (i j : ℕ) → i < j → j < length blocks → at blocks i < at blocks j
  pub touched : (i : ℕ) → i < length blocks → flagged written (piece_of (at blocks i)) ≡ true
  pub enough : length blocks ≤ length entries
  pub few : data_sectors ≤ length blocks
  pub full : (i : ℕ) → i < data_sectors → is_empty (at entries i) ≡ false
  pub names : (i : ℕ) → i < data_sectors → sector_of (at entries i) ≡ at taken i
  pub emptied : (i : ℕ) → data_sectors ≤ i → i < length blocks → at entries i ≡ 0
  pub below : (i : ℕ) → i < length taken → at taken i < g.n
  pub flags : pieces_for g.l ≤ length written
  pub past : (p : ℕ) → pieces_for g.l ≤ p → flagged written p ≡ false
  pub taken_all : data_sectors + count_below (flagged written) (pieces_for g.l) ≡ length taken
  pub numbers : number + count_below (flagged written) (pieces_for g.l) < 2 ^ 32

-- The plan, as it stands in the arrays; so many stores are allowed.
pub record Planning (plan : Plan) (count members : ℕ) (branches written : List ℕ) (data_sectors : ℕ) (taken : List ℕ) (skipped allowance : ℕ) : Type 0 where
  pub members_are : members ≡ plan.members
  pub branches_are : take count branches ≡ plan.branches
  pub few : count ≤ branch_room
  pub written_are : flagged written ≡ plan.written
  pub taken_are : take (data_sectors + members) taken ≡ plan.places
  pub skipped_are : skipped ≡ plan.skipped (made (data_sectors + members) allowance)
