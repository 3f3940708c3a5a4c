-- Rows beyond the samples that no edit of a definition needs: a block that is a map sector, a little too little room, numbers that just suffice, a piece
-- that is missing, and park records that are not laid out as such.
use Prim.Native.Nat.{ℕ, ◌-◌}
use mathlib.Core.Path.{◌≡◌, refl}
use mathlib.Core.Bool.{true}
use mathlib.Core.List.{List, [], ◌∷◌, map}
use lib.ListN.{set}
use Rattle.layout.specs.Bounded.{at}
use Rattle.layout.specs.Entry.{blank}
use Rattle.layout.proofs.Conditions.{signed}
use Rattle.volume.proofs.Rows.{Call, Row, Table, gives, says, volume_a, volume_b, full, enough, write_bytes, write, park, recover}
use Rattle.volume.proofs.ByHand.{overwritten, blank_at, copied, signed_at, parked_at, numbered}

-- The park record with word 5 set too, and word 1 one less: in balance, or not.
park_tilted : Call
park_tilted s m = overwritten 0 (set (m.image 0) 4 (at (m.image 0) 4 - 1)) s m

park_lengthened : Call
park_lengthened s m = overwritten 0 (set (set (m.image 0) 4 (at (m.image 0) 4 - 1)) 20 1) s m

-- A block that is a map sector byte for byte.
forged : List ℕ
forged = signed 99 0 true []

write_forged : ℕ → List ℕ → Call
write_forged head blocks = write_bytes head blocks forged enough

-- A block that is a map sector byte for byte is stored flipped: the scan does not take it, and it reads as it was written.
flipped : Row
flipped =
    record {
      calls = write_forged 6 (5 ∷ []) ∷ recover 200 enough ∷ [];
      block = 5;
      sector = 6;
      says = record {
        result = record { answer = 0; stores = 0; skipped = 0; way = 2; reads = 12; tail = 7; number = 4; phase = 0 };
        free = 1 ∷ 4 ∷ 5 ∷ 8 ∷ 9 ∷ 10 ∷ 11 ∷ [];
        live = (7 ∷ 4 ∷ 0 ∷ 1 ∷ 3 ∷ []) ∷ (2 ∷ 2 ∷ 1 ∷ 0 ∷ 1 ∷ []) ∷ (3 ∷ 3 ∷ 2 ∷ 1 ∷ 2 ∷ []) ∷ [];
        entries = (5 ∷ 2147483654 ∷ []) ∷ [];
        sectors = 0 ∷ 1 ∷ 2 ∷ 3 ∷ 0 ∷ 0 ∷ 0 ∷ 4 ∷ 0 ∷ 0 ∷ 0 ∷ 0 ∷ [];
        balance = 0x4EB2B2D3;
        block = forged;
        bytes = set forged 0 0xA9;
      };
    }

-- 6: six blocks need nine.
no_room : Row
no_room =
    record {
      calls = write 4 (0 ∷ 1 ∷ 2 ∷ 3 ∷ 4 ∷ 5 ∷ []) 9 enough ∷ [];
      block = 4;
      sector = 4;
      says = record {
        result = record { answer = 6; stores = 0; skipped = 0; way = 0; reads = 0; tail = 3; number = 3; phase = 0 };
        free = 4 ∷ 5 ∷ 6 ∷ 7 ∷ 8 ∷ 9 ∷ 10 ∷ 11 ∷ [];
        live = (1 ∷ 1 ∷ 0 ∷ 0 ∷ []) ∷ (2 ∷ 2 ∷ 1 ∷ 0 ∷ 1 ∷ []) ∷ (3 ∷ 3 ∷ 2 ∷ 1 ∷ 2 ∷ []) ∷ [];
        entries = [];
        sectors = 0 ∷ 1 ∷ 2 ∷ 3 ∷ 0 ∷ 0 ∷ 0 ∷ 0 ∷ 0 ∷ 0 ∷ 0 ∷ 0 ∷ [];
        balance = 0xCEB2B2D9;
        block = blank;
        bytes = blank;
      };
    }

-- 7 does not apply after 4,294,967,039: enough numbers are left.
last_numbers : Row
last_numbers =
    record {
      calls = numbered 4294967039 ∷ write 2 (0 ∷ []) 9 enough ∷ [];
      block = 0;
      sector = 2;
      says = record {
        result = record { answer = 0; stores = 2; skipped = 0; way = 0; reads = 0; tail = 3; number = 4294967040; phase = 0 };
        free = 1 ∷ [];
        live = (3 ∷ 4294967040 ∷ 0 ∷ 1 ∷ []) ∷ [];
        entries = (0 ∷ 2 ∷ []) ∷ [];
        sectors = 0 ∷ 4294967039 ∷ 0 ∷ 4294967040 ∷ [];
        balance = 0xCEB2B4A5;
        block = full 9;
        bytes = full 9;
      };
    }

-- 9: piece 0 is missing.
piece_missing : Row
piece_missing =
    record {
      calls = blank_at 1 ∷ recover 200 enough ∷ [];
      block = 0;
      sector = 1;
      says = record {
        result = record { answer = 9; stores = 0; skipped = 0; way = 0; reads = 0; tail = 0; number = 0; phase = 2 };
        free = 0 ∷ 1 ∷ 2 ∷ 3 ∷ 4 ∷ 5 ∷ 6 ∷ 7 ∷ 8 ∷ 9 ∷ 10 ∷ 11 ∷ [];
        live = (0 ∷ []) ∷ (0 ∷ []) ∷ (0 ∷ []) ∷ [];
        entries = [];
        sectors = 0 ∷ 0 ∷ 2 ∷ 3 ∷ 0 ∷ 0 ∷ 0 ∷ 0 ∷ 0 ∷ 0 ∷ 0 ∷ 0 ∷ [];
        balance = 0x00000000;
        block = full 238;
        bytes = blank;
      };
    }

-- A park record with one more word set, in balance: the scan answers, and clears it.
park_longer : Row
park_longer =
    record {
      calls = write 6 (5 ∷ 100 ∷ []) 33 enough ∷ park enough ∷ park_lengthened ∷ recover 200 enough ∷ [];
      block = 5;
      sector = 0;
      says = record {
        result = record { answer = 0; stores = 1; skipped = 0; way = 2; reads = 12; tail = 9; number = 5; phase = 0 };
        free = 1 ∷ 2 ∷ 4 ∷ 5 ∷ 10 ∷ 11 ∷ [];
        live = (8 ∷ 4 ∷ 0 ∷ 0 ∷ 3 ∷ []) ∷ (9 ∷ 5 ∷ 1 ∷ 1 ∷ 8 ∷ []) ∷ (3 ∷ 3 ∷ 2 ∷ 1 ∷ 2 ∷ []) ∷ [];
        entries = (5 ∷ 6 ∷ []) ∷ (100 ∷ 7 ∷ []) ∷ [];
        sectors = 0 ∷ 1 ∷ 2 ∷ 3 ∷ 0 ∷ 0 ∷ 0 ∷ 0 ∷ 4 ∷ 5 ∷ 0 ∷ 0 ∷ [];
        balance = 0xCEB2B2CB;
        block = full 33;
        bytes = blank;
      };
    }

-- A park record out of balance likewise.
park_unbalanced : Row
park_unbalanced =
    record {
      calls = write 6 (5 ∷ 100 ∷ []) 33 enough ∷ park enough ∷ park_tilted ∷ recover 200 enough ∷ [];
      block = 5;
      sector = 0;
      says = record {
        result = record { answer = 0; stores = 1; skipped = 0; way = 2; reads = 12; tail = 9; number = 5; phase = 0 };
        free = 1 ∷ 2 ∷ 4 ∷ 5 ∷ 10 ∷ 11 ∷ [];
        live = (8 ∷ 4 ∷ 0 ∷ 0 ∷ 3 ∷ []) ∷ (9 ∷ 5 ∷ 1 ∷ 1 ∷ 8 ∷ []) ∷ (3 ∷ 3 ∷ 2 ∷ 1 ∷ 2 ∷ []) ∷ [];
        entries = (5 ∷ 6 ∷ []) ∷ (100 ∷ 7 ∷ []) ∷ [];
        sectors = 0 ∷ 1 ∷ 2 ∷ 3 ∷ 0 ∷ 0 ∷ 0 ∷ 0 ∷ 4 ∷ 5 ∷ 0 ∷ 0 ∷ [];
        balance = 0xCEB2B2CB;
        block = full 33;
        bytes = blank;
      };
    }

further : List Table
unfolding flipped no_room piece_missing park_longer park_unbalanced last_numbers park_tilted park_lengthened forged write_forged overwritten blank_at copied signed_at parked_at numbered signed
further =
    volume_b (flipped ∷ no_room ∷ piece_missing ∷ park_longer ∷ park_unbalanced ∷ [])
    ∷ volume_a (last_numbers ∷ [])
    ∷ []

further_hold : map gives further ≡ map says further
unfolding gives further
further_hold = refl
