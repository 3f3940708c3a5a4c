-- The rows that a wrong definition runs into: wrapping, listing, room, every refusal, the order of stores and of zeroing, cuts in a
-- recovery, and images that no history leaves. The samples, and the rows that no edit of a definition needs, stand in crate `samples`.
use mathlib.Core.Path.{◌≡◌, refl}
use mathlib.Core.Bool.{true, false}
use mathlib.Core.List.{List, [], ◌∷◌, map, ◌++◌}
use lib.ListN.{replicate}
use Rattle.geometry.proofs.Sized.{one_track}
use Rattle.layout.specs.Entry.{blank}
use Rattle.layout.proofs.Conditions.{signed}
use Rattle.volume.proofs.Rows.{Row, Table, gives, says, volume_a, volume_b, full, enough, write_bytes, write, drop, park, recover}
use Rattle.volume.proofs.ByHand.{overwritten, blank_at, copied, signed_at, naming_at, parked_at, numbered}

-- A search from the last sector goes on at 0, the track's first position; 0 to 3 are used and skipped. Two stores are just enough.
wraps : Row
wraps =
    record {
      calls = write 11 (5 ∷ []) 7 2 ∷ [];
      block = 5;
      sector = 11;
      says = record {
        result = record { answer = 0; stores = 2; skipped = 4; way = 0; reads = 0; tail = 4; number = 4; phase = 0 };
        free = 1 ∷ 5 ∷ 6 ∷ 7 ∷ 8 ∷ 9 ∷ 10 ∷ [];
        live = (4 ∷ 4 ∷ 0 ∷ 1 ∷ 3 ∷ []) ∷ (2 ∷ 2 ∷ 1 ∷ 0 ∷ 1 ∷ []) ∷ (3 ∷ 3 ∷ 2 ∷ 1 ∷ 2 ∷ []) ∷ [];
        entries = (5 ∷ 11 ∷ []) ∷ [];
        sectors = 0 ∷ 1 ∷ 2 ∷ 3 ∷ 4 ∷ 0 ∷ 0 ∷ 0 ∷ 0 ∷ 0 ∷ 0 ∷ 0 ∷ [];
        balance = 0xCEB2B2CE;
        block = full 7;
        bytes = full 7;
      };
    }

-- Sector 2 is listed, and sector 1 is not: sector 2 branches to it. The search begins at sector 0, which is skipped with 1 to 3.
reached_already : Row
reached_already =
    record {
      calls = write 0 (192 ∷ []) 7 enough ∷ [];
      block = 192;
      sector = 4;
      says = record {
        result = record { answer = 0; stores = 2; skipped = 4; way = 0; reads = 0; tail = 5; number = 4; phase = 0 };
        free = 3 ∷ 6 ∷ 7 ∷ 8 ∷ 9 ∷ 10 ∷ 11 ∷ [];
        live = (1 ∷ 1 ∷ 0 ∷ 0 ∷ []) ∷ (2 ∷ 2 ∷ 1 ∷ 0 ∷ 1 ∷ []) ∷ (5 ∷ 4 ∷ 2 ∷ 1 ∷ 2 ∷ []) ∷ [];
        entries = (192 ∷ 4 ∷ []) ∷ [];
        sectors = 0 ∷ 1 ∷ 2 ∷ 3 ∷ 0 ∷ 4 ∷ 0 ∷ 0 ∷ 0 ∷ 0 ∷ 0 ∷ 0 ∷ [];
        balance = 0xCEB2B2D4;
        block = full 7;
        bytes = full 7;
      };
    }

-- A superseded sector is not free in its own commit: the head stands on one, and data goes to 10, past the run 6 to 9, the map
-- sector to 11.
superseded_later : Row
superseded_later =
    record {
      calls = write 6 (5 ∷ 100 ∷ []) 33 enough ∷ write 6 (5 ∷ []) 8 enough ∷ [];
      block = 5;
      sector = 10;
      says = record {
        result = record { answer = 0; stores = 2; skipped = 4; way = 0; reads = 0; tail = 11; number = 6; phase = 0 };
        free = 1 ∷ 2 ∷ 4 ∷ 5 ∷ 6 ∷ 8 ∷ [];
        live = (11 ∷ 6 ∷ 0 ∷ 1 ∷ 9 ∷ 3 ∷ []) ∷ (9 ∷ 5 ∷ 1 ∷ 1 ∷ 8 ∷ []) ∷ (3 ∷ 3 ∷ 2 ∷ 1 ∷ 2 ∷ []) ∷ [];
        entries = (5 ∷ 10 ∷ []) ∷ (100 ∷ 7 ∷ []) ∷ [];
        sectors = 0 ∷ 1 ∷ 2 ∷ 3 ∷ 0 ∷ 0 ∷ 0 ∷ 0 ∷ 4 ∷ 5 ∷ 0 ∷ 6 ∷ [];
        balance = 0xCEB2B2C3;
        block = full 8;
        bytes = full 8;
      };
    }

-- A walk from 7 reads branch 6, number 5, whose branch 5 has the higher number 7 and does not count: the scan answers.
higher_branch : Row
higher_branch =
    record {
      calls = blank_at 1 ∷ blank_at 2 ∷ signed_at 5 7 2 false [] ∷ signed_at 6 5 1 false (5 ∷ []) ∷ signed_at 7 10 0 true (6 ∷ []) ∷ parked_at 10 7 ∷ recover 200 enough ∷ [];
      block = 5;
      sector = 0;
      says = record {
        result = record { answer = 0; stores = 1; skipped = 0; way = 2; reads = 12; tail = 7; number = 10; phase = 0 };
        free = 1 ∷ 2 ∷ 3 ∷ 4 ∷ 8 ∷ 9 ∷ 10 ∷ 11 ∷ [];
        live = (7 ∷ 10 ∷ 0 ∷ 1 ∷ 6 ∷ []) ∷ (6 ∷ 5 ∷ 1 ∷ 0 ∷ 5 ∷ []) ∷ (5 ∷ 7 ∷ 2 ∷ 0 ∷ []) ∷ [];
        entries = [];
        sectors = 0 ∷ 0 ∷ 0 ∷ 3 ∷ 0 ∷ 7 ∷ 5 ∷ 10 ∷ 0 ∷ 0 ∷ 0 ∷ 0 ∷ [];
        balance = 0xCEB2B2D0;
        block = blank;
        bytes = blank;
      };
    }

-- Eight free sectors are room for 5 blocks and 3 pieces, and no more.
room_exactly : Row
room_exactly =
    record {
      calls = write 4 (0 ∷ 1 ∷ 2 ∷ 3 ∷ 4 ∷ []) 9 enough ∷ [];
      block = 4;
      sector = 8;
      says = record {
        result = record { answer = 0; stores = 6; skipped = 0; way = 0; reads = 0; tail = 9; number = 4; phase = 0 };
        free = 1 ∷ 10 ∷ 11 ∷ [];
        live = (9 ∷ 4 ∷ 0 ∷ 1 ∷ 3 ∷ []) ∷ (2 ∷ 2 ∷ 1 ∷ 0 ∷ 1 ∷ []) ∷ (3 ∷ 3 ∷ 2 ∷ 1 ∷ 2 ∷ []) ∷ [];
        entries = (0 ∷ 4 ∷ []) ∷ (1 ∷ 5 ∷ []) ∷ (2 ∷ 6 ∷ []) ∷ (3 ∷ 7 ∷ []) ∷ (4 ∷ 8 ∷ []) ∷ [];
        sectors = 0 ∷ 1 ∷ 2 ∷ 3 ∷ 0 ∷ 0 ∷ 0 ∷ 0 ∷ 0 ∷ 4 ∷ 0 ∷ 0 ∷ [];
        balance = 0xCEB2B2BB;
        block = full 9;
        bytes = full 9;
      };
    }

-- Each block has its own bytes: those of 5 go to sector 6, those of 100 to sector 7.
bytes_in_order : Row
bytes_in_order =
    record {
      calls = write_bytes 6 (5 ∷ 100 ∷ []) (full 33 ++ full 44) enough ∷ [];
      block = 5;
      sector = 7;
      says = record {
        result = record { answer = 0; stores = 4; skipped = 0; way = 0; reads = 0; tail = 9; number = 5; phase = 0 };
        free = 1 ∷ 2 ∷ 4 ∷ 5 ∷ 10 ∷ 11 ∷ [];
        live = (8 ∷ 4 ∷ 0 ∷ 0 ∷ 3 ∷ []) ∷ (9 ∷ 5 ∷ 1 ∷ 1 ∷ 8 ∷ []) ∷ (3 ∷ 3 ∷ 2 ∷ 1 ∷ 2 ∷ []) ∷ [];
        entries = (5 ∷ 6 ∷ []) ∷ (100 ∷ 7 ∷ []) ∷ [];
        sectors = 0 ∷ 1 ∷ 2 ∷ 3 ∷ 0 ∷ 0 ∷ 0 ∷ 0 ∷ 4 ∷ 5 ∷ 0 ∷ 0 ∷ [];
        balance = 0xCEB2B2CB;
        block = full 33;
        bytes = full 44;
      };
    }

-- 1: no volume has 24,577 blocks.
refusal1 : Row
refusal1 =
    record {
      calls = recover 24577 enough ∷ [];
      block = 0;
      sector = 4;
      says = record {
        result = record { answer = 1; stores = 0; skipped = 0; way = 0; reads = 0; tail = 3; number = 3; phase = 0 };
        free = 4 ∷ 5 ∷ 6 ∷ 7 ∷ 8 ∷ 9 ∷ 10 ∷ 11 ∷ [];
        live = (1 ∷ 1 ∷ 0 ∷ 0 ∷ []) ∷ (2 ∷ 2 ∷ 1 ∷ 0 ∷ 1 ∷ []) ∷ (3 ∷ 3 ∷ 2 ∷ 1 ∷ 2 ∷ []) ∷ [];
        entries = [];
        sectors = 0 ∷ 1 ∷ 2 ∷ 3 ∷ 0 ∷ 0 ∷ 0 ∷ 0 ∷ 0 ∷ 0 ∷ 0 ∷ 0 ∷ [];
        balance = 0xCEB2B2D9;
        block = blank;
        bytes = blank;
      };
    }

-- 2: two blocks with the bytes of one.
refusal2 : Row
refusal2 =
    record {
      calls = write_bytes 4 (0 ∷ 1 ∷ []) (full 9) enough ∷ [];
      block = 0;
      sector = 4;
      says = record {
        result = record { answer = 2; stores = 0; skipped = 0; way = 0; reads = 0; tail = 3; number = 3; phase = 0 };
        free = 4 ∷ 5 ∷ 6 ∷ 7 ∷ 8 ∷ 9 ∷ 10 ∷ 11 ∷ [];
        live = (1 ∷ 1 ∷ 0 ∷ 0 ∷ []) ∷ (2 ∷ 2 ∷ 1 ∷ 0 ∷ 1 ∷ []) ∷ (3 ∷ 3 ∷ 2 ∷ 1 ∷ 2 ∷ []) ∷ [];
        entries = [];
        sectors = 0 ∷ 1 ∷ 2 ∷ 3 ∷ 0 ∷ 0 ∷ 0 ∷ 0 ∷ 0 ∷ 0 ∷ 0 ∷ 0 ∷ [];
        balance = 0xCEB2B2D9;
        block = blank;
        bytes = blank;
      };
    }

-- 3: block numbers that do not ascend.
refusal3 : Row
refusal3 =
    record {
      calls = write 4 (5 ∷ 3 ∷ []) 9 enough ∷ [];
      block = 0;
      sector = 4;
      says = record {
        result = record { answer = 3; stores = 0; skipped = 0; way = 0; reads = 0; tail = 3; number = 3; phase = 0 };
        free = 4 ∷ 5 ∷ 6 ∷ 7 ∷ 8 ∷ 9 ∷ 10 ∷ 11 ∷ [];
        live = (1 ∷ 1 ∷ 0 ∷ 0 ∷ []) ∷ (2 ∷ 2 ∷ 1 ∷ 0 ∷ 1 ∷ []) ∷ (3 ∷ 3 ∷ 2 ∷ 1 ∷ 2 ∷ []) ∷ [];
        entries = [];
        sectors = 0 ∷ 1 ∷ 2 ∷ 3 ∷ 0 ∷ 0 ∷ 0 ∷ 0 ∷ 0 ∷ 0 ∷ 0 ∷ 0 ∷ [];
        balance = 0xCEB2B2D9;
        block = blank;
        bytes = blank;
      };
    }

-- 4: a write to a parked volume.
refusal4 : Row
refusal4 =
    record {
      calls = park enough ∷ write 4 (5 ∷ []) 9 enough ∷ [];
      block = 0;
      sector = 0;
      says = record {
        result = record { answer = 4; stores = 0; skipped = 0; way = 0; reads = 0; tail = 3; number = 3; phase = 1 };
        free = 4 ∷ 5 ∷ 6 ∷ 7 ∷ 8 ∷ 9 ∷ 10 ∷ 11 ∷ [];
        live = (1 ∷ 1 ∷ 0 ∷ 0 ∷ []) ∷ (2 ∷ 2 ∷ 1 ∷ 0 ∷ 1 ∷ []) ∷ (3 ∷ 3 ∷ 2 ∷ 1 ∷ 2 ∷ []) ∷ [];
        entries = [];
        sectors = 0 ∷ 1 ∷ 2 ∷ 3 ∷ 0 ∷ 0 ∷ 0 ∷ 0 ∷ 0 ∷ 0 ∷ 0 ∷ 0 ∷ [];
        balance = 0xCEB2B2D9;
        block = blank;
        bytes = 0x56 ∷ 0x4C ∷ 0x50 ∷ 0x31 ∷ 0xA4 ∷ 0xB3 ∷ 0xAF ∷ 0xCE ∷ 3 ∷ 0 ∷ 0 ∷ 0 ∷ 3 ∷ 0 ∷ 0 ∷ 0 ∷ replicate 496 0;
      };
    }

-- 5: a live map sector is not there.
refusal5 : Row
refusal5 =
    record {
      calls = blank_at 2 ∷ write 4 (5 ∷ []) 9 enough ∷ [];
      block = 0;
      sector = 2;
      says = record {
        result = record { answer = 5; stores = 0; skipped = 0; way = 0; reads = 0; tail = 3; number = 3; phase = 0 };
        free = 4 ∷ 5 ∷ 6 ∷ 7 ∷ 8 ∷ 9 ∷ 10 ∷ 11 ∷ [];
        live = (1 ∷ 1 ∷ 0 ∷ 0 ∷ []) ∷ (2 ∷ []) ∷ (3 ∷ 3 ∷ 2 ∷ 1 ∷ 2 ∷ []) ∷ [];
        entries = [];
        sectors = 0 ∷ 1 ∷ 0 ∷ 3 ∷ 0 ∷ 0 ∷ 0 ∷ 0 ∷ 0 ∷ 0 ∷ 0 ∷ 0 ∷ [];
        balance = 0xCEB2B2D9;
        block = blank;
        bytes = blank;
      };
    }

-- 7: too few numbers are left after 4,294,967,040.
refusal7 : Row
refusal7 =
    record {
      calls = numbered 4294967040 ∷ write 2 (0 ∷ []) 9 enough ∷ [];
      block = 0;
      sector = 2;
      says = record {
        result = record { answer = 7; stores = 0; skipped = 0; way = 0; reads = 0; tail = 1; number = 4294967040; phase = 0 };
        free = 2 ∷ 3 ∷ [];
        live = (1 ∷ 4294967040 ∷ 0 ∷ 1 ∷ []) ∷ [];
        entries = [];
        sectors = 0 ∷ 4294967040 ∷ 0 ∷ 0 ∷ [];
        balance = 0xCEB2B4A7;
        block = blank;
        bytes = blank;
      };
    }

-- 8: the only closing sector is gone.
refusal8 : Row
refusal8 =
    record {
      calls = blank_at 3 ∷ recover 200 enough ∷ [];
      block = 0;
      sector = 3;
      says = record {
        result = record { answer = 8; stores = 0; skipped = 0; way = 0; reads = 0; tail = 0; number = 0; phase = 2 };
        free = 0 ∷ 1 ∷ 2 ∷ 3 ∷ 4 ∷ 5 ∷ 6 ∷ 7 ∷ 8 ∷ 9 ∷ 10 ∷ 11 ∷ [];
        live = (0 ∷ []) ∷ (0 ∷ []) ∷ (0 ∷ []) ∷ [];
        entries = [];
        sectors = 0 ∷ 1 ∷ 2 ∷ 0 ∷ 0 ∷ 0 ∷ 0 ∷ 0 ∷ 0 ∷ 0 ∷ 0 ∷ 0 ∷ [];
        balance = 0x00000000;
        block = full 238;
        bytes = blank;
      };
    }

-- 9: two signed sectors have the number 3.
refusal9 : Row
refusal9 =
    record {
      calls = copied 3 7 ∷ recover 200 enough ∷ [];
      block = 0;
      sector = 0;
      says = record {
        result = record { answer = 9; stores = 0; skipped = 0; way = 0; reads = 0; tail = 0; number = 0; phase = 2 };
        free = 0 ∷ 1 ∷ 2 ∷ 3 ∷ 4 ∷ 5 ∷ 6 ∷ 7 ∷ 8 ∷ 9 ∷ 10 ∷ 11 ∷ [];
        live = (0 ∷ []) ∷ (0 ∷ []) ∷ (0 ∷ []) ∷ [];
        entries = [];
        sectors = 0 ∷ 1 ∷ 2 ∷ 3 ∷ 0 ∷ 0 ∷ 0 ∷ 3 ∷ 0 ∷ 0 ∷ 0 ∷ 0 ∷ [];
        balance = 0x00000000;
        block = full 238;
        bytes = blank;
      };
    }

-- Data goes first: a write that is cut after one store has stored its block and no map sector. The search for the latter, which
-- passes over 1 to 3, is not on the bill.
data_first : Row
data_first =
    record {
      calls = write 11 (5 ∷ []) 9 1 ∷ [];
      block = 5;
      sector = 11;
      says = record {
        result = record { answer = 10; stores = 1; skipped = 0; way = 0; reads = 0; tail = 3; number = 3; phase = 2 };
        free = 4 ∷ 5 ∷ 6 ∷ 7 ∷ 8 ∷ 9 ∷ 10 ∷ 11 ∷ [];
        live = (1 ∷ 1 ∷ 0 ∷ 0 ∷ []) ∷ (2 ∷ 2 ∷ 1 ∷ 0 ∷ 1 ∷ []) ∷ (3 ∷ 3 ∷ 2 ∷ 1 ∷ 2 ∷ []) ∷ [];
        entries = [];
        sectors = 0 ∷ 1 ∷ 2 ∷ 3 ∷ 0 ∷ 0 ∷ 0 ∷ 0 ∷ 0 ∷ 0 ∷ 0 ∷ 0 ∷ [];
        balance = 0xCEB2B2D9;
        block = full 238;
        bytes = full 9;
      };
    }

-- 10: a drop whose members go to 11, 4 and 5, cut after two stores; the second is found past 0 to 3.
refusal10 : Row
refusal10 =
    record {
      calls = drop 11 (0 ∷ 100 ∷ 192 ∷ []) 2 ∷ [];
      block = 0;
      sector = 0;
      says = record {
        result = record { answer = 10; stores = 2; skipped = 4; way = 0; reads = 0; tail = 3; number = 3; phase = 2 };
        free = 4 ∷ 5 ∷ 6 ∷ 7 ∷ 8 ∷ 9 ∷ 10 ∷ 11 ∷ [];
        live = (1 ∷ 1 ∷ 0 ∷ 0 ∷ []) ∷ (2 ∷ 2 ∷ 1 ∷ 0 ∷ 1 ∷ []) ∷ (3 ∷ 3 ∷ 2 ∷ 1 ∷ 2 ∷ []) ∷ [];
        entries = [];
        sectors = 0 ∷ 1 ∷ 2 ∷ 3 ∷ 5 ∷ 0 ∷ 0 ∷ 0 ∷ 0 ∷ 0 ∷ 0 ∷ 4 ∷ [];
        balance = 0xCEB2B2D9;
        block = full 238;
        bytes = blank;
      };
    }

-- Its recovery zeros by sector, so 4 before 11; cut in the middle it has lost the tables ...
recovery_cut : Row
recovery_cut =
    record {
      calls = drop 11 (0 ∷ 100 ∷ 192 ∷ []) 2 ∷ recover 200 1 ∷ [];
      block = 0;
      sector = 4;
      says = record {
        result = record { answer = 10; stores = 1; skipped = 0; way = 0; reads = 0; tail = 0; number = 0; phase = 2 };
        free = 0 ∷ 1 ∷ 2 ∷ 3 ∷ 4 ∷ 5 ∷ 6 ∷ 7 ∷ 8 ∷ 9 ∷ 10 ∷ 11 ∷ [];
        live = (0 ∷ []) ∷ (0 ∷ []) ∷ (0 ∷ []) ∷ [];
        entries = [];
        sectors = 0 ∷ 1 ∷ 2 ∷ 3 ∷ 0 ∷ 0 ∷ 0 ∷ 0 ∷ 0 ∷ 0 ∷ 0 ∷ 4 ∷ [];
        balance = 0x00000000;
        block = full 238;
        bytes = blank;
      };
    }

-- ... and the next recovery zeros the rest.
recovered_again : Row
recovered_again =
    record {
      calls = drop 11 (0 ∷ 100 ∷ 192 ∷ []) 2 ∷ recover 200 1 ∷ recover 200 enough ∷ [];
      block = 0;
      sector = 11;
      says = record {
        result = record { answer = 0; stores = 1; skipped = 0; way = 2; reads = 12; tail = 3; number = 3; phase = 0 };
        free = 4 ∷ 5 ∷ 6 ∷ 7 ∷ 8 ∷ 9 ∷ 10 ∷ 11 ∷ [];
        live = (1 ∷ 1 ∷ 0 ∷ 0 ∷ []) ∷ (2 ∷ 2 ∷ 1 ∷ 0 ∷ 1 ∷ []) ∷ (3 ∷ 3 ∷ 2 ∷ 1 ∷ 2 ∷ []) ∷ [];
        entries = [];
        sectors = 0 ∷ 1 ∷ 2 ∷ 3 ∷ 0 ∷ 0 ∷ 0 ∷ 0 ∷ 0 ∷ 0 ∷ 0 ∷ 0 ∷ [];
        balance = 0xCEB2B2D9;
        block = blank;
        bytes = blank;
      };
    }

-- The walk takes 6 before 5, so that 4, a newer sector of the piece of 5, comes to wait in its place.
newest_first : Row
newest_first =
    record {
      calls = blank_at 1 ∷ blank_at 2 ∷ blank_at 3 ∷ signed_at 7 10 2 true (6 ∷ 5 ∷ []) ∷ signed_at 6 8 0 false (4 ∷ []) ∷ signed_at 5 6 1 false [] ∷ signed_at 4 7 1 false [] ∷ parked_at 10 7 ∷ recover 200 enough ∷ [];
      block = 5;
      sector = 0;
      says = record {
        result = record { answer = 0; stores = 1; skipped = 0; way = 1; reads = 5; tail = 7; number = 10; phase = 0 };
        free = 1 ∷ 2 ∷ 3 ∷ 5 ∷ 8 ∷ 9 ∷ 10 ∷ 11 ∷ [];
        live = (6 ∷ 8 ∷ 0 ∷ 0 ∷ 4 ∷ []) ∷ (4 ∷ 7 ∷ 1 ∷ 0 ∷ []) ∷ (7 ∷ 10 ∷ 2 ∷ 1 ∷ 6 ∷ 5 ∷ []) ∷ [];
        entries = [];
        sectors = 0 ∷ 0 ∷ 0 ∷ 0 ∷ 7 ∷ 6 ∷ 8 ∷ 10 ∷ 0 ∷ 0 ∷ 0 ∷ 0 ∷ [];
        balance = 0xCEB2B2C8;
        block = blank;
        bytes = blank;
      };
    }

-- Of two waiting ones with one number, the first read waits.
first_read : Row
first_read =
    record {
      calls = blank_at 1 ∷ blank_at 2 ∷ blank_at 3 ∷ signed_at 7 10 2 true (6 ∷ 5 ∷ 4 ∷ []) ∷ signed_at 6 8 0 false [] ∷ signed_at 5 6 1 false [] ∷ signed_at 4 6 1 false [] ∷ parked_at 10 7 ∷ recover 200 enough ∷ [];
      block = 5;
      sector = 0;
      says = record {
        result = record { answer = 0; stores = 1; skipped = 0; way = 1; reads = 5; tail = 7; number = 10; phase = 0 };
        free = 1 ∷ 2 ∷ 3 ∷ 4 ∷ 8 ∷ 9 ∷ 10 ∷ 11 ∷ [];
        live = (6 ∷ 8 ∷ 0 ∷ 0 ∷ []) ∷ (5 ∷ 6 ∷ 1 ∷ 0 ∷ []) ∷ (7 ∷ 10 ∷ 2 ∷ 1 ∷ 6 ∷ 5 ∷ 4 ∷ []) ∷ [];
        entries = [];
        sectors = 0 ∷ 0 ∷ 0 ∷ 0 ∷ 6 ∷ 6 ∷ 8 ∷ 10 ∷ 0 ∷ 0 ∷ 0 ∷ 0 ∷ [];
        balance = 0xCEB2B2C3;
        block = blank;
        bytes = blank;
      };
    }

-- Sector 4 is of a piece that is done when it is read: it does not count.
done_already : Row
done_already =
    record {
      calls = blank_at 1 ∷ blank_at 2 ∷ blank_at 3 ∷ signed_at 7 10 2 true (6 ∷ 5 ∷ []) ∷ signed_at 6 8 0 false (4 ∷ []) ∷ signed_at 5 6 1 false [] ∷ signed_at 4 7 0 false [] ∷ parked_at 10 7 ∷ recover 200 enough ∷ [];
      block = 5;
      sector = 0;
      says = record {
        result = record { answer = 0; stores = 1; skipped = 0; way = 1; reads = 5; tail = 7; number = 10; phase = 0 };
        free = 1 ∷ 2 ∷ 3 ∷ 4 ∷ 8 ∷ 9 ∷ 10 ∷ 11 ∷ [];
        live = (6 ∷ 8 ∷ 0 ∷ 0 ∷ 4 ∷ []) ∷ (5 ∷ 6 ∷ 1 ∷ 0 ∷ []) ∷ (7 ∷ 10 ∷ 2 ∷ 1 ∷ 6 ∷ 5 ∷ []) ∷ [];
        entries = [];
        sectors = 0 ∷ 0 ∷ 0 ∷ 0 ∷ 7 ∷ 6 ∷ 8 ∷ 10 ∷ 0 ∷ 0 ∷ 0 ∷ 0 ∷ [];
        balance = 0xCEB2B2C8;
        block = blank;
        bytes = blank;
      };
    }

-- The park record names a member, not a closing sector: it does not walk, though every piece could be reached from there.
member_parked : Row
member_parked =
    record {
      calls = signed_at 7 10 2 false (2 ∷ []) ∷ parked_at 10 7 ∷ recover 200 enough ∷ [];
      block = 5;
      sector = 7;
      says = record {
        result = record { answer = 0; stores = 2; skipped = 0; way = 2; reads = 12; tail = 3; number = 3; phase = 0 };
        free = 4 ∷ 5 ∷ 6 ∷ 7 ∷ 8 ∷ 9 ∷ 10 ∷ 11 ∷ [];
        live = (1 ∷ 1 ∷ 0 ∷ 0 ∷ []) ∷ (2 ∷ 2 ∷ 1 ∷ 0 ∷ 1 ∷ []) ∷ (3 ∷ 3 ∷ 2 ∷ 1 ∷ 2 ∷ []) ∷ [];
        entries = [];
        sectors = 0 ∷ 1 ∷ 2 ∷ 3 ∷ 0 ∷ 0 ∷ 0 ∷ 0 ∷ 0 ∷ 0 ∷ 0 ∷ 0 ∷ [];
        balance = 0xCEB2B2D9;
        block = blank;
        bytes = blank;
      };
    }

-- The walk takes sector 6, whose entry names sector 4, a live place: its tables are not sound, and the scan answers, which takes the newer
-- sector 5 in its place.
unsound_walk : Row
unsound_walk =
    record {
      calls = blank_at 1 ∷ blank_at 2 ∷ blank_at 3 ∷ signed_at 7 10 2 true (6 ∷ 4 ∷ []) ∷ naming_at 6 8 0 false [] 4 ∷ signed_at 5 9 0 false [] ∷ signed_at 4 7 1 false [] ∷ parked_at 10 7 ∷ recover 200 enough ∷ [];
      block = 5;
      sector = 0;
      says = record {
        result = record { answer = 0; stores = 1; skipped = 0; way = 2; reads = 12; tail = 7; number = 10; phase = 0 };
        free = 1 ∷ 2 ∷ 3 ∷ 6 ∷ 8 ∷ 9 ∷ 10 ∷ 11 ∷ [];
        live = (5 ∷ 9 ∷ 0 ∷ 0 ∷ []) ∷ (4 ∷ 7 ∷ 1 ∷ 0 ∷ []) ∷ (7 ∷ 10 ∷ 2 ∷ 1 ∷ 6 ∷ 4 ∷ []) ∷ [];
        entries = [];
        sectors = 0 ∷ 0 ∷ 0 ∷ 0 ∷ 7 ∷ 9 ∷ 8 ∷ 10 ∷ 0 ∷ 0 ∷ 0 ∷ 0 ∷ [];
        balance = 0xCEB2B2C9;
        block = blank;
        bytes = blank;
      };
    }

-- 9: no number is there twice and no piece is missing, but an entry names a live place.
unsound_scan : Row
unsound_scan =
    record {
      calls = naming_at 3 3 2 true (2 ∷ []) 1 ∷ recover 200 enough ∷ [];
      block = 0;
      sector = 0;
      says = record {
        result = record { answer = 9; stores = 0; skipped = 0; way = 0; reads = 0; tail = 0; number = 0; phase = 2 };
        free = 0 ∷ 1 ∷ 2 ∷ 3 ∷ 4 ∷ 5 ∷ 6 ∷ 7 ∷ 8 ∷ 9 ∷ 10 ∷ 11 ∷ [];
        live = (0 ∷ []) ∷ (0 ∷ []) ∷ (0 ∷ []) ∷ [];
        entries = [];
        sectors = 0 ∷ 1 ∷ 2 ∷ 3 ∷ 0 ∷ 0 ∷ 0 ∷ 0 ∷ 0 ∷ 0 ∷ 0 ∷ 0 ∷ [];
        balance = 0x00000000;
        block = full 238;
        bytes = blank;
      };
    }

-- Sector 9 closed the commit of sector 8, and holds data now: sector 8 is live all the same.
closing_recycled : Row
closing_recycled =
    record {
      calls = write 6 (5 ∷ 100 ∷ []) 33 enough ∷ write 0 (100 ∷ []) 40 enough ∷ write 9 (100 ∷ []) 41 enough ∷ recover 200 enough ∷ [];
      block = 5;
      sector = 9;
      says = record {
        result = record { answer = 0; stores = 0; skipped = 0; way = 2; reads = 12; tail = 10; number = 7; phase = 0 };
        free = 1 ∷ 2 ∷ 4 ∷ 5 ∷ 7 ∷ 11 ∷ [];
        live = (8 ∷ 4 ∷ 0 ∷ 0 ∷ 3 ∷ []) ∷ (10 ∷ 7 ∷ 1 ∷ 1 ∷ 8 ∷ []) ∷ (3 ∷ 3 ∷ 2 ∷ 1 ∷ 2 ∷ []) ∷ [];
        entries = (5 ∷ 6 ∷ []) ∷ (100 ∷ 9 ∷ []) ∷ [];
        sectors = 0 ∷ 0 ∷ 6 ∷ 3 ∷ 0 ∷ 0 ∷ 0 ∷ 0 ∷ 4 ∷ 0 ∷ 7 ∷ 0 ∷ [];
        balance = 0xCEB2B2C7;
        block = full 33;
        bytes = full 41;
      };
    }

-- A signed sector 0 above C is zeroed once.
signed_park_sector : Row
signed_park_sector =
    record {
      calls = signed_at 0 50 0 false [] ∷ recover 200 enough ∷ [];
      block = 0;
      sector = 0;
      says = record {
        result = record { answer = 0; stores = 1; skipped = 0; way = 2; reads = 12; tail = 3; number = 3; phase = 0 };
        free = 4 ∷ 5 ∷ 6 ∷ 7 ∷ 8 ∷ 9 ∷ 10 ∷ 11 ∷ [];
        live = (1 ∷ 1 ∷ 0 ∷ 0 ∷ []) ∷ (2 ∷ 2 ∷ 1 ∷ 0 ∷ 1 ∷ []) ∷ (3 ∷ 3 ∷ 2 ∷ 1 ∷ 2 ∷ []) ∷ [];
        entries = [];
        sectors = 0 ∷ 1 ∷ 2 ∷ 3 ∷ 0 ∷ 0 ∷ 0 ∷ 0 ∷ 0 ∷ 0 ∷ 0 ∷ 0 ∷ [];
        balance = 0xCEB2B2D9;
        block = blank;
        bytes = blank;
      };
    }

-- A format cut before its map sector.
format_cut : Row
format_cut =
    record {
      calls = [];
      block = 0;
      sector = 3;
      says = record {
        result = record { answer = 10; stores = 4; skipped = 0; way = 0; reads = 0; tail = 0; number = 0; phase = 2 };
        free = 0 ∷ 1 ∷ 2 ∷ 3 ∷ [];
        live = (0 ∷ []) ∷ [];
        entries = [];
        sectors = 0 ∷ 0 ∷ 0 ∷ 0 ∷ [];
        balance = 0x00000000;
        block = full 238;
        bytes = blank;
      };
    }

unfoldable pub corners : List Table
unfolding wraps reached_already superseded_later higher_branch room_exactly bytes_in_order refusal1 refusal2 refusal3 refusal4 refusal5 refusal8 refusal9 data_first
    refusal10 recovery_cut recovered_again newest_first first_read done_already member_parked unsound_walk unsound_scan closing_recycled signed_park_sector refusal7 format_cut overwritten blank_at
    copied signed_at naming_at parked_at numbered signed
corners =
    volume_b (wraps ∷ reached_already ∷ superseded_later ∷ higher_branch ∷ room_exactly ∷ bytes_in_order ∷ refusal1 ∷ refusal2 ∷ refusal3 ∷ refusal4 ∷ refusal5
    ∷ refusal8 ∷ refusal9 ∷ data_first ∷ refusal10 ∷ recovery_cut ∷ recovered_again ∷ newest_first ∷ first_read
    ∷ done_already ∷ member_parked ∷ unsound_walk ∷ unsound_scan ∷ closing_recycled ∷ signed_park_sector ∷ [])
    ∷ volume_a (refusal7 ∷ [])
    ∷ record { format = record { n = 4; l = 2; drive = one_track 4; stores = 4 }; rows = format_cut ∷ [] }
    ∷ []

pub corners_hold : map gives corners ≡ map says corners
unfolding gives corners
corners_hold = refl
