-- What is shown of a sector's layout: every condition of a signed sector, each as a row of one table with a theorem; the park record
-- likewise; and the bytes of what is stored.
use Prim.Native.Nat.{ℕ, ◌-◌, ◌%◌, ◌^◌}
use mathlib.Core.Path.{◌≡◌, refl}
use mathlib.Core.Bool.{Bool, true, false, cond}
use mathlib.Core.List.{List, [], ◌∷◌, map}
use mathlib.Core.Option.{Option, none, some}
use lib.ListN.{replicate, set, take}
use lib.Dec.{eqb}
use Rattle.geometry.proofs.Sized.{sized}
use Rattle.layout.specs.Bounded.{all, same}
use Rattle.layout.specs.Word.{words_of, bytes_of, word_sum, starts_with, balanced}
use Rattle.layout.specs.MapSector.{MapSector, encoded, branches_fit, valid, decoded}
use Rattle.layout.specs.Entry.{complemented, needs_flip, stored, entry_for, restored}
use Rattle.layout.specs.ParkRecord.{Parked, park_record, is_park_record, parked_in}

-- A map sector of volume B with entries zero.
unfoldable pub signed : ℕ → ℕ → Bool → List ℕ → List ℕ
signed number piece closing branches =
    encoded 200
    (record { number = number; piece = piece; closing = closing; branches = branches; entries = replicate 96 0 })

-- Every condition of "signed". A map sector of volume B (L 200, N 12, three pieces; the last has 8 entries) is signed, and
-- with one word changed, in balance again, it is or is not.
record Altered : Type 0 where
  word : ℕ
  value : ℕ
  says : Bool

-- The bytes of a sector with a word changed. Word 1 takes up the difference, unless it is the one changed.
altered : List ℕ → Altered → List ℕ
altered sector a =
    let ws = set (words_of sector) a.word a.value in
    let rest = word_sum (set ws 1 0) in
    cond (eqb a.word 1) (bytes_of ws) (bytes_of (set ws 1 ((2 ^ 32 - rest) % 2 ^ 32)))

is_signed : Option MapSector → Bool
is_signed none = false
is_signed (some m) = true

altered_gives : Altered → Bool
unfolding all same words_of bytes_of word_sum starts_with balanced encoded branches_fit valid decoded altered signed is_signed
altered_gives a = is_signed (decoded (sized 12 200) (altered (signed 5 2 true (7 ∷ [])) a))

alterations : List Altered
alterations =
    record { word = 2; value = 5; says = true }
    ∷ record { word = 0; value = 0x314D4C57; says = false }
    ∷ record { word = 0; value = 0x324D4C56; says = false }
    ∷ record { word = 1; value = 1; says = false }
    ∷ record { word = 2; value = 0; says = false }
    ∷ record { word = 2; value = 4294967295; says = true }
    ∷ record { word = 3; value = 1; says = false }
    ∷ record { word = 4; value = 3; says = false }
    ∷ record { word = 4; value = 1; says = true }
    ∷ record { word = 5; value = 0; says = true }
    ∷ record { word = 5; value = 2; says = false }
    ∷ record { word = 6; value = 0; says = false }
    ∷ record { word = 6; value = 2; says = false }
    ∷ record { word = 6; value = 25; says = false }
    ∷ record { word = 7; value = 201; says = false }
    ∷ record { word = 8; value = 0; says = false }
    ∷ record { word = 8; value = 11; says = true }
    ∷ record { word = 8; value = 12; says = false }
    ∷ record { word = 9; value = 1; says = false }
    ∷ record { word = 31; value = 1; says = false }
    ∷ record { word = 39; value = 4294967295; says = true }
    ∷ record { word = 40; value = 1; says = false }
    ∷ record { word = 127; value = 1; says = false }
    ∷ []

alterations_hold : map altered_gives alterations ≡ map (λ a. a.says) alterations
unfolding altered_gives alterations
alterations_hold = refl

-- The same of a park record: tail 9 with number 5, and one word changed.
park : List ℕ
park = park_record (record { number = 5; tail = 9 })

is_parked : Option Parked → Bool
is_parked none = false
is_parked (some p) = true

park_gives : Altered → Bool
unfolding all same words_of bytes_of word_sum starts_with balanced park_record is_park_record parked_in park altered is_parked
park_gives a = is_parked (parked_in (altered park a))

park_alterations : List Altered
park_alterations =
    record { word = 2; value = 7; says = true }
    ∷ record { word = 0; value = 0x31504C57; says = false }
    ∷ record { word = 0; value = 0x314D4C56; says = false }
    ∷ record { word = 1; value = 1; says = false }
    ∷ record { word = 3; value = 0; says = true }
    ∷ record { word = 4; value = 1; says = false }
    ∷ record { word = 5; value = 1; says = false }
    ∷ record { word = 127; value = 1; says = false }
    ∷ []

park_alterations_hold : map park_gives park_alterations ≡ map (λ a. a.says) park_alterations
unfolding park_gives park_alterations
park_alterations_hold = refl

-- Bytes as document 01 lays them out. Sample 1: the one map sector of a fresh volume A has CEB2B3A6 hexadecimal in word 1. With a flipped
-- block 0 in sector 2 the words add up to more than 2^31.
record Made : Type 0 where
  entry : ℕ
  says : List ℕ

made_gives : Made → List ℕ
unfolding words_of bytes_of word_sum balanced encoded
made_gives m =
    take 32
    (encoded 2 (record { number = 1; piece = 0; closing = true; branches = []; entries = m.entry ∷ replicate 95 0 }))

mades : List Made
mades =
    record {
      entry = 0;
      says =
          0x56 ∷ 0x4C ∷ 0x4D ∷ 0x31 ∷ 0xA6 ∷ 0xB3 ∷ 0xB2 ∷ 0xCE ∷ 1 ∷ 0 ∷ 0 ∷ 0 ∷ 0 ∷ 0 ∷ 0 ∷ 0
          ∷ 0 ∷ 0 ∷ 0 ∷ 0 ∷ 1 ∷ 0 ∷ 0 ∷ 0 ∷ 0 ∷ 0 ∷ 0 ∷ 0 ∷ 2 ∷ 0 ∷ 0 ∷ 0 ∷ [];
    }
    ∷ record {
      entry = 0x80000002;
      says =
          0x56 ∷ 0x4C ∷ 0x4D ∷ 0x31 ∷ 0xA4 ∷ 0xB3 ∷ 0xB2 ∷ 0x4E ∷ 1 ∷ 0 ∷ 0 ∷ 0 ∷ 0 ∷ 0 ∷ 0 ∷ 0
          ∷ 0 ∷ 0 ∷ 0 ∷ 0 ∷ 1 ∷ 0 ∷ 0 ∷ 0 ∷ 0 ∷ 0 ∷ 0 ∷ 0 ∷ 2 ∷ 0 ∷ 0 ∷ 0 ∷ [];
    }
    ∷ []

mades_hold : map made_gives mades ≡ map (λ m. m.says) mades
unfolding made_gives mades
mades_hold = refl

-- A block that begins with the mark is stored with A9 hexadecimal for its first byte, its entry has bit 31 set, and it reads as it was
-- written; one that differs in the fourth byte is stored as it is.
record Storing : Type 0 where
  block : List ℕ
  stores : List ℕ
  entry : ℕ

record Stored : Type 0 where
  stores : List ℕ
  entry : ℕ
  reads : List ℕ

stored_gives : Storing → Stored
unfolding same starts_with complemented needs_flip stored entry_for restored
stored_gives s =
    record {
      stores = stored s.block;
      entry = entry_for s.block 6;
      reads = restored (entry_for s.block 6) (stored s.block);
    }

storings : List Storing
storings =
    record { block = 0x56 ∷ 0x4C ∷ 0x4D ∷ 0x31 ∷ 7 ∷ []; stores = 0xA9 ∷ 0x4C ∷ 0x4D ∷ 0x31 ∷ 7 ∷ []; entry = 0x80000006 }
    ∷ record { block = 0x56 ∷ 0x4C ∷ 0x4D ∷ 0x32 ∷ 7 ∷ []; stores = 0x56 ∷ 0x4C ∷ 0x4D ∷ 0x32 ∷ 7 ∷ []; entry = 6 }
    ∷ []

storings_hold : map stored_gives storings ≡ map (λ s. record { stores = s.stores; entry = s.entry; reads = s.block }) storings
unfolding stored_gives storings
storings_hold = refl
