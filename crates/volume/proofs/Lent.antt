-- What a call is lent and handed, from bytes, words and lengths: the sectors that a used map marks, a read's entry and sector, which table is
-- which, the lengths, and the blocks that are named. (The other rows start from a format, which is lent functions.)
use Prim.Native.Nat.{ℕ, zero, suc, ◌+◌, ◌*◌, ◌/◌}
use mathlib.Core.Path.{◌≡◌, refl}
use mathlib.Core.Bool.{Bool, true, false, cond}
use mathlib.Core.List.{List, [], ◌∷◌, ◌++◌, map}
use lib.ListN.{length, replicate, take, drop}
use Rattle.geometry.proofs.Sized.{sized, one_track, asked}
use Rattle.state.specs.State.{fresh_state}
use Rattle.answer.specs.Answer.{verdict_number, number_of}
use Rattle.layout.specs.Bounded.{all_below, count_below, best, all, elem, distinct, same, list_from, gathered}
use Rattle.layout.specs.Word.{words_of, bytes_of, word_sum, starts_with, balanced}
use Rattle.layout.specs.MapSector.{MapSector, encoded, branches_fit, valid, decoded}
use Rattle.layout.specs.Entry.{blank, complemented, restored}
use Rattle.layout.specs.ParkRecord.{park_record}
use Rattle.volume.specs.Tables.{sector_at, bit_at, memory, named_by, used_by, free_sectors, consistent, piece_entries, says_piece, live_valid}
use Rattle.volume.specs.Refusals.{applies, first_of, judged}
use Rattle.volume.specs.Store.{applied, performed}
use Rattle.volume.specs.Format.{image_fits, tables_fit, size_checks}
use Rattle.volume.specs.Calls.{state_fits, blocks_fit, tables_agree, state_checks, entry_readable, read_checks, block_of, read_judged, read_of, park_checks, park_action, park_of}
use Rattle.volume.proofs.Rows.{full}

-- The bytes of a used map, and the sectors that they mark. None is marked past their end.
record Marking : Type 0 where
  used : List ℕ
  says : List ℕ

marked_in : (ℕ → Bool) → ℕ → ℕ → List ℕ
marked_in is_used k zero = []
marked_in is_used k (suc n) = let rest = marked_in is_used (suc k) n in cond (is_used k) (k ∷ rest) rest

marking_gives : Marking → List ℕ
unfolding sector_at bit_at memory marked_in
marking_gives m = marked_in (memory [] [] [] [] m.used).tables.is_used 0 (8 * length m.used + 8)

markings : List Marking
markings =
    record { used = 0x89 ∷ 0x06 ∷ []; says = 0 ∷ 3 ∷ 7 ∷ 9 ∷ 10 ∷ [] }
    ∷ record { used = 0x7E ∷ 0x00 ∷ 0x81 ∷ []; says = 1 ∷ 2 ∷ 3 ∷ 4 ∷ 5 ∷ 6 ∷ 16 ∷ 23 ∷ [] }
    ∷ record { used = []; says = [] }
    ∷ []

markings_hold : map marking_gives markings ≡ map (λ m. m.says) markings
unfolding marking_gives markings
markings_hold = refl

-- Reads of a volume of 4 sectors and 2 blocks, from the bytes of its image and the words of its map: the answer, and the 512 bytes.
record Read : Type 0 where
  answer : ℕ
  out : List ℕ

record Reading : Type 0 where
  image : List ℕ
  map : List ℕ
  block : ℕ
  says : Read

-- Each sector has another byte; the third begins as a flipped block does.
four_sectors : List ℕ
four_sectors = full 9 ++ (full 10 ++ ((0xA9 ∷ replicate 511 0x4C) ++ full 12))

reading_gives : Reading → Read
unfolding all same complemented restored sector_at bit_at memory applies first_of judged tables_fit state_fits entry_readable read_checks block_of read_judged read_of
reading_gives r =
    let a = read_of (fresh_state (sized 4 2) (one_track 4) 1 1) (memory r.image r.map (1 ∷ []) (1 ∷ []) (0x0F ∷ [])) r.block (full 238) in
    record { answer = number_of a.outcome.answer; out = a.out }

readings : List Reading
unfolding four_sectors
readings =
    record { image = four_sectors; map = 2 ∷ 3 ∷ []; block = 0; says = record { answer = 0; out = 0xA9 ∷ replicate 511 0x4C } }
    ∷ record { image = four_sectors; map = 2 ∷ 3 ∷ []; block = 1; says = record { answer = 0; out = full 12 } }
    ∷ record { image = four_sectors; map = 0x80000002 ∷ 3 ∷ []; block = 0; says = record { answer = 0; out = 0x56 ∷ replicate 511 0x4C } }
    ∷ record { image = four_sectors; map = 2 ∷ 0 ∷ []; block = 1; says = record { answer = 0; out = blank } }
    ∷ record { image = four_sectors; map = 2 ∷ 4 ∷ []; block = 1; says = record { answer = 5; out = full 238 } }
    ∷ record { image = four_sectors; map = 2 ∷ []; block = 0; says = record { answer = 2; out = full 238 } }
    ∷ record { image = drop 1 four_sectors; map = 2 ∷ 3 ∷ []; block = 0; says = record { answer = 1; out = full 238 } }
    ∷ []

readings_hold : map reading_gives readings ≡ map (λ r. r.says) readings
unfolding reading_gives readings
readings_hold = refl

-- Which table is which: map sector 1 of piece 0 has the number 5. With places and numbers exchanged it is not what the tables say.
record Parking : Type 0 where
  places : List ℕ
  numbers : List ℕ
  says : List ℕ

-- The answer, and the first bytes of sector 0.
parking_gives : Parking → List ℕ
unfolding all_below count_below best all elem distinct same list_from gathered words_of bytes_of word_sum starts_with balanced encoded branches_fit valid decoded
    park_record sector_at bit_at memory named_by used_by free_sectors consistent piece_entries says_piece live_valid applies first_of judged applied performed
    tables_fit state_fits tables_agree park_checks park_action park_of
parking_gives p =
    let closing = encoded 2 (record { number = 5; piece = 0; closing = true; branches = []; entries = replicate 96 0 }) in
    let image = blank ++ (closing ++ (full 9 ++ full 9)) in
    let a = park_of (fresh_state (sized 4 2) (one_track 4) 1 5) (memory image (0 ∷ 0 ∷ []) p.places p.numbers (0x03 ∷ [])) 1 in
    number_of a.outcome.answer ∷ take 16 (a.memory.image 0)

parkings : List Parking
parkings =
    record {
      places = 1 ∷ [];
      numbers = 5 ∷ [];
      says = 0 ∷ 0x56 ∷ 0x4C ∷ 0x50 ∷ 0x31 ∷ 0xA4 ∷ 0xB3 ∷ 0xAF ∷ 0xCE ∷ 5 ∷ 0 ∷ 0 ∷ 0 ∷ 1 ∷ 0 ∷ 0 ∷ 0 ∷ [];
    }
    ∷ record { places = 5 ∷ []; numbers = 1 ∷ []; says = 5 ∷ replicate 16 0 }
    ∷ []

parkings_hold : map parking_gives parkings ≡ map (λ p. p.says) parkings
unfolding parking_gives parkings
parkings_hold = refl

-- Lengths. A call on a state, of N sectors and L blocks, and a format or a recovery of L blocks, by the lengths of what they are lent: 0, or the
-- number that they turn back with.
record Lent : Type 0 where
  n : ℕ
  l : ℕ
  image : ℕ
  map : ℕ
  places : ℕ
  numbers : ℕ
  used : ℕ
  on_state : ℕ
  given : ℕ

lent_gives : Lent → List ℕ
unfolding memory applies first_of judged image_fits tables_fit size_checks state_fits
lent_gives r =
    let m = memory (replicate r.image 0) (replicate r.map 0) (replicate r.places 0) (replicate r.numbers 0) (replicate r.used 0) in
    verdict_number (judged (state_checks (fresh_state (sized r.n r.l) (one_track r.n) 1 1) m true))
    ∷ verdict_number (judged (size_checks m (asked r.l (one_track (r.image / 512))))) ∷ []

lents : List Lent
lents =
    record { n = 9; l = 97; image = 4608; map = 97; places = 2; numbers = 2; used = 2; on_state = 0; given = 0 }
    -- Not the state's N, a sector that is not whole, N below 2P + 2, L of 0.
    ∷ record { n = 8; l = 97; image = 4608; map = 97; places = 2; numbers = 2; used = 2; on_state = 1; given = 0 }
    ∷ record { n = 9; l = 97; image = 4609; map = 97; places = 2; numbers = 2; used = 2; on_state = 1; given = 1 }
    ∷ record { n = 5; l = 97; image = 2560; map = 97; places = 2; numbers = 2; used = 1; on_state = 1; given = 1 }
    ∷ record { n = 9; l = 0; image = 4608; map = 0; places = 0; numbers = 0; used = 2; on_state = 1; given = 1 }
    -- One table after the other is too short or too long.
    ∷ record { n = 9; l = 97; image = 4608; map = 96; places = 2; numbers = 2; used = 2; on_state = 2; given = 2 }
    ∷ record { n = 9; l = 97; image = 4608; map = 97; places = 1; numbers = 2; used = 2; on_state = 2; given = 2 }
    ∷ record { n = 9; l = 97; image = 4608; map = 97; places = 2; numbers = 3; used = 2; on_state = 2; given = 2 }
    ∷ record { n = 9; l = 97; image = 4608; map = 97; places = 2; numbers = 2; used = 1; on_state = 2; given = 2 }
    ∷ []

lents_hold : map lent_gives lents ≡ map (λ r. r.on_state ∷ r.given ∷ []) lents
unfolding lent_gives lents
lents_hold = refl

-- The blocks that a write or a drop names, on a volume of 12 sectors and 200 blocks.
record Naming : Type 0 where
  head : ℕ
  blocks : List ℕ
  says : Bool

naming_gives : Naming → Bool
unfolding all_below all blocks_fit
naming_gives r = blocks_fit (sized 12 200) r.head r.blocks

namings : List Naming
unfolding list_from
namings =
    record { head = 11; blocks = 0 ∷ []; says = true }
    ∷ record { head = 12; blocks = 0 ∷ []; says = false }
    ∷ record { head = 0; blocks = []; says = false }
    ∷ record { head = 0; blocks = list_from (λ i. i) 0 64; says = true }
    ∷ record { head = 0; blocks = list_from (λ i. i) 0 65; says = false }
    ∷ record { head = 0; blocks = 3 ∷ 5 ∷ []; says = true }
    ∷ record { head = 0; blocks = 5 ∷ 5 ∷ []; says = false }
    ∷ record { head = 0; blocks = 5 ∷ 3 ∷ []; says = false }
    ∷ record { head = 0; blocks = 3 ∷ 199 ∷ []; says = true }
    ∷ record { head = 0; blocks = 3 ∷ 200 ∷ []; says = false }
    ∷ []

namings_hold : map naming_gives namings ≡ map (λ r. r.says) namings
unfolding naming_gives namings
namings_hold = refl
