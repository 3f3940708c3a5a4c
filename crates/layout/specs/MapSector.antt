-- Document 01, "Map sector": how one is made, and when a sector is one ("signed").
use Rattle.std.specs.Prelude.{ℕ, ◌*◌, ◌-◌, Bool, cond, ◌&&◌, List, [], ◌∷◌, ◌++◌, length, take, drop, replicate, eqb, leb, ltb}
use Rattle.std.proofs.Math.Option.{Option, none, some}
use Rattle.layout.specs.Bounded.{at, all, is_zero}
use Rattle.geometry.specs.declared.Geometry.{Geometry}
use Rattle.geometry.specs.Geometry.{within, pieces_for, entries_per_piece, branch_room}
use Rattle.layout.specs.Word.{words_of, word_sum, starts_with, balanced}

-- Bytes 56 4C 4D 31 hexadecimal: "VLM1".
abbrev pub map_mark : List ℕ
map_mark = 0x56 ∷ 0x4C ∷ 0x4D ∷ 0x31 ∷ []

-- What a map sector says: its number, its piece, its kind (member or closing), its branches and its 96 entries.
pub record MapSector : Type 0 where
  pub number : ℕ
  pub piece : ℕ
  pub closing : Bool
  pub branches : List ℕ
  pub entries : List ℕ

abbrev pub kind_of : Bool → ℕ
kind_of closing = cond closing 1 0

-- The 512 bytes of a map sector of a volume of L blocks.
unfoldable pub encoded : ℕ → MapSector → List ℕ
encoded l m =
    balanced map_mark
    (m.number ∷ 0 ∷ m.piece ∷ kind_of m.closing ∷ length m.branches ∷ l
    ∷ m.branches ++ (replicate (branch_room - length m.branches) 0 ++ m.entries))

-- Words 8 to 31, and words 32 to 127.
abbrev pub branch_words : List ℕ → List ℕ
branch_words ws = take branch_room (drop 8 ws)

abbrev pub entry_words : List ℕ → List ℕ
entry_words ws = drop 32 ws

-- The first `count` are sectors from 1 to N - 1, and the unused ones are zero.
unfoldable pub branches_fit : ℕ → ℕ → List ℕ → Bool
branches_fit n count branches = all (within 1 (n - 1)) (take count branches) && all is_zero (drop count branches)

-- Signed: the mark, the sum, and every word as the layout says; in a volume of N sectors and L blocks.
unfoldable pub valid : Geometry → List ℕ → List ℕ → Bool
valid g bytes ws =
    starts_with map_mark bytes
    && is_zero (word_sum ws)
    && leb 1 (at ws 2)
    && is_zero (at ws 3)
    && ltb (at ws 4) (pieces_for g.l)
    && leb (at ws 5) 1
    && leb (at ws 6) branch_room
    && eqb (at ws 7) g.l
    && branches_fit g.n (at ws 6) (branch_words ws)
    && all is_zero (drop (g.l - entries_per_piece * at ws 4) (entry_words ws))

abbrev pub fields : List ℕ → MapSector
fields ws =
    record {
      number = at ws 2;
      piece = at ws 4;
      closing = eqb (at ws 5) 1;
      branches = take (at ws 6) (branch_words ws);
      entries = entry_words ws;
    }

-- What a sector says where it is signed, and nothing where it is not.
unfoldable pub decoded : Geometry → List ℕ → Option MapSector
decoded g bytes =
    let ws = words_of bytes in
    let found = some (fields ws) in
    cond (valid g bytes ws) found none

-- A volume's sectors as map sectors.
abbrev pub View : Type 0
View = ℕ → Option MapSector
