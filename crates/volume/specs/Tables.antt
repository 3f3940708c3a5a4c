-- Document 01, "Tables": what a caller lends, seen as functions, and when tables are sound ("consistent" here).
use Rattle.std.specs.Prelude.{ℕ, ◌*◌, ◌-◌, ◌/◌, ◌%◌, ◌^◌, Bool, false, cond, not, ◌&&◌, ◌||◌, List, [], length, take, drop, eqb, leb}
use Rattle.std.specs.Bool.{beq}
use Rattle.std.proofs.Math.Option.{Option, none, some}
use Rattle.layout.specs.Bounded.{at, all_below, count_below, best, all, elem, distinct, same, list_from, always, gathered}
use Rattle.geometry.specs.declared.Geometry.{Geometry}
use Rattle.geometry.specs.Geometry.{within, sector_bytes, pieces_for, entries_per_piece, used_bytes}
use Rattle.layout.specs.MapSector.{MapSector, View}
use Rattle.layout.specs.Entry.{is_empty, sector_of}

-- The k-th 512 bytes of a run of bytes: a sector of an image, a block of a write's bytes.
unfoldable pub sector_at : List ℕ → ℕ → List ℕ
sector_at bytes k = take sector_bytes (drop (sector_bytes * k) bytes)

-- Bit k of a used map, lowest bit of byte 0 first.
unfoldable pub bit_at : List ℕ → ℕ → Bool
bit_at bytes k = eqb (at bytes (k / 8) / 2 ^ (k % 8) % 2) 1

-- The tables: L map words, P live places, P live numbers, and the used map.
pub record Tables : Type 0 where
  pub entry : ℕ → ℕ
  pub place : ℕ → ℕ
  pub number : ℕ → ℕ
  pub is_used : ℕ → Bool

-- The lengths of what is lent, the image in bytes and the others in elements.
pub record Lengths : Type 0 where
  pub image : ℕ
  pub map : ℕ
  pub places : ℕ
  pub numbers : ℕ
  pub used : ℕ

-- All that is lent to a call: the image as sectors, and the tables.
pub record Memory : Type 0 where
  pub lengths : Lengths
  pub image : ℕ → List ℕ
  pub tables : Tables

-- The tables that lent slices hold: map words, live places, live numbers and the used map.
abbrev pub tables_of : List ℕ → List ℕ → List ℕ → List ℕ → Tables
tables_of map places numbers used = record { entry = at map; place = at places; number = at numbers; is_used = bit_at used }

-- What the lent slices hold.
unfoldable pub memory : List ℕ → List ℕ → List ℕ → List ℕ → List ℕ → Memory
memory image map places numbers used =
    record {
      lengths = record {
        image = length image;
        map = length map;
        places = length places;
        numbers = length numbers;
        used = length used;
      };
      image = sector_at image;
      tables = tables_of map places numbers used;
    }

-- Tables filled with zeros.
abbrev pub zero_tables : Tables
zero_tables = record { entry = λ _. 0; place = λ _. 0; number = λ _. 0; is_used = λ _. false }

-- Every sector that the tables name: the live places, and the sectors of all non-zero entries.
unfoldable pub named_by : ℕ → (ℕ → ℕ) → (ℕ → ℕ) → List ℕ
named_by l entry place =
    gathered (λ b. not (is_empty (entry b))) (λ b. sector_of (entry b)) (gathered always place [] (pieces_for l)) l

-- The used map of such tables: exactly sector 0 and the sectors they name.
unfoldable pub used_by : List ℕ → ℕ → Bool
used_by named = λ k. eqb k 0 || elem k named

-- Sectors whose bit is not set.
unfoldable pub free_sectors : ℕ → (ℕ → Bool) → ℕ
free_sectors n is_used = count_below (λ k. not (is_used k)) n

-- Sound: the named sectors lie in 1 to N - 1 and none is named twice; the used bits are exactly sector 0 and those, spare
-- bits zero; at least P sectors are free; live numbers are distinct and from 1; the tail is the place with the greatest
-- number, and `number` is that one.
unfoldable pub consistent : Geometry → Tables → ℕ → ℕ → Bool
consistent g t tail number =
    let p = pieces_for g.l in
    let named = named_by g.l t.entry t.place in
    let newest = best t.number p in
    all (within 1 (g.n - 1)) named
    && distinct named
    && all_below (λ k. beq (t.is_used k) (used_by named k)) (8 * used_bytes g.n)
    && leb p (free_sectors g.n t.is_used)
    && distinct (gathered always t.number [] p)
    && all_below (λ q. leb 1 (t.number q)) p
    && eqb tail (t.place newest)
    && eqb number (t.number newest)

-- The 96 entries of a piece, those past L zero.
unfoldable pub piece_entries : ℕ → (ℕ → ℕ) → ℕ → List ℕ
piece_entries l entry p = list_from (λ b. cond (leb l b) 0 (entry b)) (entries_per_piece * p) entries_per_piece

-- The sector says just this piece, number and entries.
unfoldable pub says_piece : Option MapSector → ℕ → ℕ → List ℕ → Bool
says_piece none p number entries = false
says_piece (some m) p number entries = eqb m.piece p && eqb m.number number && same m.entries entries

-- Each live place is signed with its piece, number and entries.
unfoldable pub live_valid : ℕ → Tables → View → Bool
live_valid l t view =
    all_below (λ p. says_piece (view (t.place p)) p (t.number p) (piece_entries l t.entry p)) (pieces_for l)
