-- The sample volumes of document 01 that are marked (p), 1 to 10, as one table with one theorem. `Rows` says what a row shows.
use mathlib.Core.Path.{◌≡◌, refl}
use mathlib.Core.List.{List, [], ◌∷◌, map}
use Rattle.layout.specs.Entry.{blank}
use Rattle.volume.proofs.Rows.{Row, Table, gives, says, volume_a, volume_b, full, enough, write, drop, park, recover}

-- 1. Format A: map in 1, word 1 is CEB2B3A6 hexadecimal; free 2, 3; 5 stores.
case1 : Row
case1 =
    record {
      calls = [];
      block = 0;
      sector = 2;
      says = record {
        result = record { answer = 0; stores = 5; skipped = 0; way = 0; reads = 0; tail = 1; number = 1; phase = 0 };
        free = 2 ∷ 3 ∷ [];
        live = (1 ∷ 1 ∷ 0 ∷ 1 ∷ []) ∷ [];
        entries = [];
        sectors = 0 ∷ 1 ∷ 0 ∷ 0 ∷ [];
        balance = 0xCEB2B3A6;
        block = blank;
        bytes = blank;
      };
    }

-- 2. Then write block 0, head 2: data 2, map 3, number 2; free 1; none skipped.
case2 : Row
case2 =
    record {
      calls = write 2 (0 ∷ []) 17 enough ∷ [];
      block = 0;
      sector = 2;
      says = record {
        result = record { answer = 0; stores = 2; skipped = 0; way = 0; reads = 0; tail = 3; number = 2; phase = 0 };
        free = 1 ∷ [];
        live = (3 ∷ 2 ∷ 0 ∷ 1 ∷ []) ∷ [];
        entries = (0 ∷ 2 ∷ []) ∷ [];
        sectors = 0 ∷ 1 ∷ 0 ∷ 2 ∷ [];
        balance = 0xCEB2B3A3;
        block = full 17;
        bytes = full 17;
      };
    }

-- 3. Then write block 1: refusal 6.
case3 : Row
case3 =
    record {
      calls = write 2 (0 ∷ []) 17 enough ∷ write 2 (1 ∷ []) 18 enough ∷ [];
      block = 1;
      sector = 2;
      says = record {
        result = record { answer = 6; stores = 0; skipped = 0; way = 0; reads = 0; tail = 3; number = 2; phase = 0 };
        free = 1 ∷ [];
        live = (3 ∷ 2 ∷ 0 ∷ 1 ∷ []) ∷ [];
        entries = (0 ∷ 2 ∷ []) ∷ [];
        sectors = 0 ∷ 1 ∷ 0 ∷ 2 ∷ [];
        balance = 0xCEB2B3A3;
        block = blank;
        bytes = full 17;
      };
    }

-- 4. Drop block 0 after case 2, head 0: map 1, number 3; free 2, 3; sector 0 skipped.
case4 : Row
case4 =
    record {
      calls = write 2 (0 ∷ []) 17 enough ∷ drop 0 (0 ∷ []) enough ∷ [];
      block = 0;
      sector = 2;
      says = record {
        result = record { answer = 0; stores = 1; skipped = 1; way = 0; reads = 0; tail = 1; number = 3; phase = 0 };
        free = 2 ∷ 3 ∷ [];
        live = (1 ∷ 3 ∷ 0 ∷ 1 ∷ []) ∷ [];
        entries = [];
        sectors = 0 ∷ 3 ∷ 0 ∷ 2 ∷ [];
        balance = 0xCEB2B3A4;
        block = blank;
        bytes = full 17;
      };
    }

-- 5. Case 2 cut after 1 store: scan, 4 read, 0 stores, block 0 is zeros.
case5 : Row
case5 =
    record {
      calls = write 2 (0 ∷ []) 17 1 ∷ recover 2 enough ∷ [];
      block = 0;
      sector = 2;
      says = record {
        result = record { answer = 0; stores = 0; skipped = 0; way = 2; reads = 4; tail = 1; number = 1; phase = 0 };
        free = 2 ∷ 3 ∷ [];
        live = (1 ∷ 1 ∷ 0 ∷ 1 ∷ []) ∷ [];
        entries = [];
        sectors = 0 ∷ 1 ∷ 0 ∷ 0 ∷ [];
        balance = 0xCEB2B3A6;
        block = blank;
        bytes = full 17;
      };
    }

-- 6. Format B, write 5 and 100, head 6: data 6, 7; piece 0 in 8, number 4, branch 3; piece 1 in 9, closing, number 5, branch 8;
-- free 1, 2, 4, 5, 10, 11.
case6 : Row
case6 =
    record {
      calls = write 6 (5 ∷ 100 ∷ []) 33 enough ∷ [];
      block = 5;
      sector = 6;
      says = record {
        result = record { answer = 0; stores = 4; skipped = 0; way = 0; reads = 0; tail = 9; number = 5; phase = 0 };
        free = 1 ∷ 2 ∷ 4 ∷ 5 ∷ 10 ∷ 11 ∷ [];
        live = (8 ∷ 4 ∷ 0 ∷ 0 ∷ 3 ∷ []) ∷ (9 ∷ 5 ∷ 1 ∷ 1 ∷ 8 ∷ []) ∷ (3 ∷ 3 ∷ 2 ∷ 1 ∷ 2 ∷ []) ∷ [];
        entries = (5 ∷ 6 ∷ []) ∷ (100 ∷ 7 ∷ []) ∷ [];
        sectors = 0 ∷ 1 ∷ 2 ∷ 3 ∷ 0 ∷ 0 ∷ 0 ∷ 0 ∷ 4 ∷ 5 ∷ 0 ∷ 0 ∷ [];
        balance = 0xCEB2B2CB;
        block = full 33;
        bytes = full 33;
      };
    }

-- 7. Case 6 parked: the walk reads 5.
case7 : Row
case7 =
    record {
      calls = write 6 (5 ∷ 100 ∷ []) 33 enough ∷ park enough ∷ recover 200 enough ∷ [];
      block = 100;
      sector = 0;
      says = record {
        result = record { answer = 0; stores = 1; skipped = 0; way = 1; reads = 5; tail = 9; number = 5; phase = 0 };
        free = 1 ∷ 2 ∷ 4 ∷ 5 ∷ 10 ∷ 11 ∷ [];
        live = (8 ∷ 4 ∷ 0 ∷ 0 ∷ 3 ∷ []) ∷ (9 ∷ 5 ∷ 1 ∷ 1 ∷ 8 ∷ []) ∷ (3 ∷ 3 ∷ 2 ∷ 1 ∷ 2 ∷ []) ∷ [];
        entries = (5 ∷ 6 ∷ []) ∷ (100 ∷ 7 ∷ []) ∷ [];
        sectors = 0 ∷ 1 ∷ 2 ∷ 3 ∷ 0 ∷ 0 ∷ 0 ∷ 0 ∷ 4 ∷ 5 ∷ 0 ∷ 0 ∷ [];
        balance = 0xCEB2B2CB;
        block = full 33;
        bytes = blank;
      };
    }

-- 8. Case 6 cut after 3 stores: the scan zeros sector 8; tail 3, number 3.
case8 : Row
case8 =
    record {
      calls = write 6 (5 ∷ 100 ∷ []) 33 3 ∷ recover 200 enough ∷ [];
      block = 5;
      sector = 8;
      says = record {
        result = record { answer = 0; stores = 1; skipped = 0; way = 2; reads = 12; tail = 3; number = 3; phase = 0 };
        free = 4 ∷ 5 ∷ 6 ∷ 7 ∷ 8 ∷ 9 ∷ 10 ∷ 11 ∷ [];
        live = (1 ∷ 1 ∷ 0 ∷ 0 ∷ []) ∷ (2 ∷ 2 ∷ 1 ∷ 0 ∷ 1 ∷ []) ∷ (3 ∷ 3 ∷ 2 ∷ 1 ∷ 2 ∷ []) ∷ [];
        entries = [];
        sectors = 0 ∷ 1 ∷ 2 ∷ 3 ∷ 0 ∷ 0 ∷ 0 ∷ 0 ∷ 0 ∷ 0 ∷ 0 ∷ 0 ∷ [];
        balance = 0xCEB2B2D9;
        block = blank;
        bytes = blank;
      };
    }

-- 9. After case 6, write 5, head 0: data 1, map 2, number 6, branches 9, 3; sector 0 skipped.
case9 : Row
case9 =
    record {
      calls = write 6 (5 ∷ 100 ∷ []) 33 enough ∷ write 0 (5 ∷ []) 34 enough ∷ [];
      block = 5;
      sector = 1;
      says = record {
        result = record { answer = 0; stores = 2; skipped = 1; way = 0; reads = 0; tail = 2; number = 6; phase = 0 };
        free = 4 ∷ 5 ∷ 6 ∷ 8 ∷ 10 ∷ 11 ∷ [];
        live = (2 ∷ 6 ∷ 0 ∷ 1 ∷ 9 ∷ 3 ∷ []) ∷ (9 ∷ 5 ∷ 1 ∷ 1 ∷ 8 ∷ []) ∷ (3 ∷ 3 ∷ 2 ∷ 1 ∷ 2 ∷ []) ∷ [];
        entries = (5 ∷ 1 ∷ []) ∷ (100 ∷ 7 ∷ []) ∷ [];
        sectors = 0 ∷ 0 ∷ 6 ∷ 3 ∷ 0 ∷ 0 ∷ 0 ∷ 0 ∷ 4 ∷ 5 ∷ 0 ∷ 0 ∷ [];
        balance = 0xCEB2B2CC;
        block = full 34;
        bytes = full 34;
      };
    }

-- 10. Again, head 0: data 4, map 5, number 7, branches 9, 3; 0 to 3 skipped.
case10 : Row
case10 =
    record {
      calls = write 6 (5 ∷ 100 ∷ []) 33 enough ∷ write 0 (5 ∷ []) 34 enough ∷ write 0 (5 ∷ []) 35 enough ∷ [];
      block = 5;
      sector = 4;
      says = record {
        result = record { answer = 0; stores = 2; skipped = 4; way = 0; reads = 0; tail = 5; number = 7; phase = 0 };
        free = 1 ∷ 2 ∷ 6 ∷ 8 ∷ 10 ∷ 11 ∷ [];
        live = (5 ∷ 7 ∷ 0 ∷ 1 ∷ 9 ∷ 3 ∷ []) ∷ (9 ∷ 5 ∷ 1 ∷ 1 ∷ 8 ∷ []) ∷ (3 ∷ 3 ∷ 2 ∷ 1 ∷ 2 ∷ []) ∷ [];
        entries = (5 ∷ 4 ∷ []) ∷ (100 ∷ 7 ∷ []) ∷ [];
        sectors = 0 ∷ 0 ∷ 6 ∷ 3 ∷ 0 ∷ 7 ∷ 0 ∷ 0 ∷ 4 ∷ 5 ∷ 0 ∷ 0 ∷ [];
        balance = 0xCEB2B2C8;
        block = full 35;
        bytes = full 35;
      };
    }

unfoldable pub samples : List Table
unfolding case1 case2 case3 case4 case5 case6 case7 case8 case9 case10
samples =
    volume_a (case1 ∷ case2 ∷ case3 ∷ case4 ∷ case5 ∷ [])
    ∷ volume_b (case6 ∷ case7 ∷ case8 ∷ case9 ∷ case10 ∷ [])
    ∷ []

pub samples_hold : map gives samples ≡ map says samples
unfolding gives samples
samples_hold = refl
