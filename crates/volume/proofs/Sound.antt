-- Every condition of sound tables, and every condition on a live map sector, each as a row of one table with a theorem. The tables are
-- those of sample 6 (L 200, N 12; blocks 5 and 100 in sectors 6 and 7, the map in 8, 9 and 3), and a row changes just as much of them as
-- breaks one condition and no other, or breaks none.
use Prim.Native.Nat.{ℕ, ◌*◌}
use mathlib.Core.Path.{◌≡◌, refl}
use mathlib.Core.Bool.{Bool, true, false, cond}
use mathlib.Core.List.{List, [], ◌∷◌, map}
use mathlib.Core.Option.{Option, none, some}
use lib.Dec.{eqb}
use Rattle.geometry.proofs.Sized.{sized}
use Rattle.layout.specs.Bounded.{at, all_below, count_below, best, all, elem, distinct, same, list_from, gathered}
use Rattle.layout.specs.MapSector.{MapSector, View}
use Rattle.volume.specs.Tables.{Tables, bit_at, named_by, used_by, free_sectors, consistent, piece_entries, says_piece, live_valid}

-- Tables as words and bytes: each block that has an entry, with it; places, numbers and the bytes of the used map; tail and number.
record Held : Type 0 where
  entries : List (List ℕ)
  places : List ℕ
  numbers : List ℕ
  used : List ℕ
  tail : ℕ
  number : ℕ
  says : Bool

entry_at : List (List ℕ) → ℕ → ℕ
entry_at [] b = 0
entry_at (e ∷ es) b = let later = entry_at es b in cond (eqb (at e 0) b) (at e 1) later

held_tables : Held → Tables
unfolding entry_at
held_tables h =
    record { entry = entry_at h.entries; place = at h.places; number = at h.numbers; is_used = bit_at h.used }

held_gives : Held → Bool
unfolding all_below count_below best all elem distinct list_from gathered bit_at named_by used_by free_sectors consistent held_tables
held_gives h = consistent (sized 12 200) (held_tables h) h.tail h.number

abbrev two : List (List ℕ)
two = (5 ∷ 6 ∷ []) ∷ (100 ∷ 7 ∷ []) ∷ []

-- The tables of sample 6 with other entries, places, numbers or used bits.
abbrev entries : List (List ℕ) → List ℕ → Bool → Held
entries es used says =
    record { entries = es; places = 8 ∷ 9 ∷ 3 ∷ []; numbers = 4 ∷ 5 ∷ 3 ∷ []; used = used; tail = 9; number = 5; says = says }

abbrev places : List ℕ → List ℕ → Bool → Held
places ps used says =
    record { entries = two; places = ps; numbers = 4 ∷ 5 ∷ 3 ∷ []; used = used; tail = 9; number = 5; says = says }

abbrev numbers : List ℕ → ℕ → ℕ → Bool → Held
numbers ns tail number says =
    record { entries = two; places = 8 ∷ 9 ∷ 3 ∷ []; numbers = ns; used = 0xC9 ∷ 0x03 ∷ []; tail = tail; number = number; says = says }

helds : List Held
helds =
    entries two (0xC9 ∷ 0x03 ∷ []) true
    -- In 1 to N - 1: places 12 and 0, entries 12, 0 with bit 31, and 11. The used bits go with them, spare bit 12 too.
    ∷ places (8 ∷ 9 ∷ 12 ∷ []) (0xC1 ∷ 0x13 ∷ []) false
    ∷ places (8 ∷ 9 ∷ 0 ∷ []) (0xC1 ∷ 0x03 ∷ []) false
    ∷ entries ((5 ∷ 6 ∷ []) ∷ (100 ∷ 12 ∷ []) ∷ []) (0x49 ∷ 0x13 ∷ []) false
    ∷ entries ((5 ∷ 6 ∷ []) ∷ (100 ∷ 0x80000000 ∷ []) ∷ []) (0x49 ∷ 0x03 ∷ []) false
    ∷ entries ((5 ∷ 6 ∷ []) ∷ (100 ∷ 11 ∷ []) ∷ []) (0x49 ∷ 0x0B ∷ []) true
    ∷ entries ((5 ∷ 6 ∷ []) ∷ (100 ∷ 0x80000007 ∷ []) ∷ []) (0xC9 ∷ 0x03 ∷ []) true
    -- None named twice: by two entries, by one that is flipped and one that is not, by an entry and a place, by two places.
    ∷ entries ((5 ∷ 6 ∷ []) ∷ (6 ∷ 6 ∷ []) ∷ (100 ∷ 7 ∷ []) ∷ []) (0xC9 ∷ 0x03 ∷ []) false
    ∷ entries ((5 ∷ 6 ∷ []) ∷ (6 ∷ 0x80000006 ∷ []) ∷ (100 ∷ 7 ∷ []) ∷ []) (0xC9 ∷ 0x03 ∷ []) false
    ∷ entries ((5 ∷ 6 ∷ []) ∷ (100 ∷ 3 ∷ []) ∷ []) (0x49 ∷ 0x03 ∷ []) false
    ∷ places (8 ∷ 9 ∷ 9 ∷ []) (0xC1 ∷ 0x03 ∷ []) false
    -- Used exactly sector 0 and those: one bit too few, one too many, sector 0's missing, a spare bit set.
    ∷ entries two (0xC9 ∷ 0x01 ∷ []) false
    ∷ entries two (0xD9 ∷ 0x03 ∷ []) false
    ∷ entries two (0xC8 ∷ 0x03 ∷ []) false
    ∷ entries two (0xC9 ∷ 0x13 ∷ []) false
    ∷ entries two (0xC9 ∷ 0x83 ∷ []) false
    -- At least P are free: with five blocks three are, with six two.
    ∷ entries ((5 ∷ 6 ∷ []) ∷ (6 ∷ 1 ∷ []) ∷ (7 ∷ 2 ∷ []) ∷ (8 ∷ 4 ∷ []) ∷ (100 ∷ 7 ∷ []) ∷ []) (0xDF ∷ 0x03 ∷ []) true
    ∷ entries ((5 ∷ 6 ∷ []) ∷ (6 ∷ 1 ∷ []) ∷ (7 ∷ 2 ∷ []) ∷ (8 ∷ 4 ∷ []) ∷ (9 ∷ 5 ∷ []) ∷ (100 ∷ 7 ∷ []) ∷ []) (0xFF ∷ 0x03 ∷ []) false
    -- Live numbers are distinct and from 1.
    ∷ numbers (3 ∷ 5 ∷ 3 ∷ []) 9 5 false
    ∷ numbers (4 ∷ 5 ∷ 0 ∷ []) 9 5 false
    ∷ numbers (4 ∷ 5 ∷ 1 ∷ []) 9 5 true
    -- The tail is the place with the greatest, and its number is that one.
    ∷ numbers (4 ∷ 5 ∷ 3 ∷ []) 8 5 false
    ∷ numbers (4 ∷ 5 ∷ 3 ∷ []) 9 4 false
    ∷ numbers (6 ∷ 5 ∷ 3 ∷ []) 8 6 true
    ∷ []

helds_hold : map held_gives helds ≡ map (λ h. h.says) helds
unfolding held_gives helds
helds_hold = refl

-- What stands at a live place: signed with that piece, that number and those entries. Kind and branches do not matter.
record Said : Type 0 where
  signed : Bool
  number : ℕ
  piece : ℕ
  closing : Bool
  branches : List ℕ
  entries : List (List ℕ)
  says : Bool

-- The words of a piece's entries.
piece_words : List (List ℕ) → ℕ → List ℕ
unfolding list_from entry_at
piece_words es p = list_from (entry_at es) (96 * p) 96

abbrev saying : ℕ → ℕ → Bool → List ℕ → List ℕ → Option MapSector
saying number piece closing branches words =
    some (record { number = number; piece = piece; closing = closing; branches = branches; entries = words })

-- Sector 8 says what the row has, sectors 9 and 3 what the tables have.
said_in : Said → View
unfolding piece_words
said_in s k =
    let at8 = cond s.signed (saying s.number s.piece s.closing s.branches (piece_words s.entries 0)) none in
    let at9 = saying 5 1 true (8 ∷ []) (piece_words two 1) in
    let at3 = saying 3 2 true (2 ∷ []) (piece_words two 2) in
    cond (eqb k 8) at8 (cond (eqb k 9) at9 (cond (eqb k 3) at3 none))

said_gives : Said → Bool
unfolding all_below same list_from piece_entries says_piece live_valid held_tables said_in
said_gives s = live_valid 200 (held_tables (entries two (0xC9 ∷ 0x03 ∷ []) true)) (said_in s)

saids : List Said
saids =
    record { signed = true; number = 4; piece = 0; closing = false; branches = 3 ∷ []; entries = two; says = true }
    ∷ record { signed = false; number = 4; piece = 0; closing = false; branches = 3 ∷ []; entries = two; says = false }
    ∷ record { signed = true; number = 6; piece = 0; closing = false; branches = 3 ∷ []; entries = two; says = false }
    ∷ record { signed = true; number = 4; piece = 1; closing = false; branches = 3 ∷ []; entries = two; says = false }
    ∷ record { signed = true; number = 4; piece = 0; closing = true; branches = []; entries = two; says = true }
    ∷ record { signed = true; number = 4; piece = 0; closing = false; branches = 3 ∷ []; entries = (5 ∷ 7 ∷ []) ∷ []; says = false }
    ∷ record { signed = true; number = 4; piece = 0; closing = false; branches = 3 ∷ []; entries = (5 ∷ 6 ∷ []) ∷ (95 ∷ 1 ∷ []) ∷ []; says = false }
    ∷ []

saids_hold : map said_gives saids ≡ map (λ s. s.says) saids
unfolding said_gives saids
saids_hold = refl
