-- Rows: a volume is formatted, calls are made on it, and then a batch; a row says what the batch answers and what is then to be seen.
-- All of it is computed from the definitions and from nothing else.
use Prim.Native.Nat.{ℕ, zero, suc, ◌*◌}
use mathlib.Core.Path.{◌≡◌, refl}
use mathlib.Core.List.{List, [], ◌∷◌, ◌++◌, map}
use lib.ListN.{replicate}
use Rattle.geometry.specs.declared.Drive.{Drive}
use Rattle.geometry.proofs.Sized.{sized, one_track, tracked}
use Rattle.state.specs.State.{phase_number, fresh_state}
use Rattle.answer.specs.Answer.{verdict_number}
use Rattle.layout.specs.Bounded.{at, list_from, sum_below}
use Rattle.volume.specs.Tables.{memory}
use Rattle.volume.specs.Refusals.{judged}
use Rattle.volume.specs.Calls.{block_of}
use Rattle.volume.proofs.Rows.{Call, Formatted, outcome_of, gives, full, park, enough}
use Rattle.volume.proofs.ByHand.{numbered}
use Rattle.batches.specs.Batch.{commit_made, commits_made, total_cost, commit_at, commits_in, batch_fits, batch_checks, answers_with, batch_by, batch_of}

-- What a batch is handed: its commits in words, their block numbers and bytes, the allowance, and how many words for the answers,
-- which hold 99 each.
record Lent : Type 0 where
  words : List ℕ
  blocks : List ℕ
  bytes : List ℕ
  allowance : ℕ
  answers : ℕ

-- The number that it is refused with as a whole, or 0; the commits answered, their stores and the sum of their delays; tail, number and
-- phase; the answers; and the first byte of each block, as the tables have it.
record Row : Type 0 where
  calls : List Call
  lent : Lent
  whole : ℕ
  answered : ℕ
  stores : ℕ
  skipped : ℕ
  tail : ℕ
  number : ℕ
  phase : ℕ
  answers : List ℕ
  shows : List ℕ

abbrev says : Row → List ℕ
says r = r.whole ∷ r.answered ∷ r.stores ∷ r.skipped ∷ r.tail ∷ r.number ∷ r.phase ∷ r.answers ++ r.shows

row_gives : Formatted → Row → List ℕ
unfolding gives outcome_of sum_below commit_made commits_made total_cost commit_at commits_in batch_fits batch_checks answers_with batch_by
row_gives f row =
    let a = outcome_of f row.calls in
    let b = row.lent in
    let r = batch_of a.outcome.state a.memory b.words b.blocks b.bytes b.allowance (replicate b.answers 99) in
    let o = r.outcome in
    verdict_number o.verdict ∷ o.answered ∷ o.cost.stores ∷ o.cost.skipped ∷ o.state.tail ∷ o.state.number ∷ phase_number o.state.phase
    ∷ r.answers ++ list_from (λ block. at (block_of r.memory block) 0) 0 f.l

-- N 16, L 4, one track: after the format map sector 1 is live.
volume : Formatted
volume = record { n = 16; l = 4; drive = one_track 16; stores = enough }

-- Commits in words.
abbrev writing : ℕ → ℕ → List ℕ
writing head count = 0 ∷ head ∷ count ∷ 512 * count ∷ []

abbrev dropping : ℕ → ℕ → List ℕ
dropping head count = 1 ∷ head ∷ count ∷ 0 ∷ []

-- A write of block 0, its drop, and a write of blocks 1 and 2: 2, 1 and 3 stores.
abbrev three_words : List ℕ
three_words = writing 0 1 ++ dropping 5 1 ++ writing 0 2

abbrev three : ℕ → Lent
three allowance = record { words = three_words; blocks = 0 ∷ 0 ∷ 1 ∷ 2 ∷ []; bytes = full 17 ++ full 18 ++ full 19; allowance = allowance; answers = 15 }

rows : List Row
rows =
    -- All are accepted, with just the stores that they need. The first goes to 2 and 3, past 0 and 1; the second to 5; the third to 1, past
    -- 0, and to 2 and 3, which are free again.
    record {
      calls = [];
      lent = three 6;
      whole = 0;
      answered = 3;
      stores = 6;
      skipped = 3;
      tail = 3;
      number = 4;
      phase = 0;
      answers = 0 ∷ 2 ∷ 2 ∷ 3 ∷ 2 ∷ 0 ∷ 1 ∷ 0 ∷ 5 ∷ 3 ∷ 0 ∷ 3 ∷ 1 ∷ 3 ∷ 4 ∷ [];
      shows = 0 ∷ 18 ∷ 19 ∷ 0 ∷ [];
    }
    -- One store fewer: the third meets 10 after two, and the first two stay.
    ∷ record {
      calls = [];
      lent = three 5;
      whole = 0;
      answered = 3;
      stores = 5;
      skipped = 3;
      tail = 5;
      number = 3;
      phase = 2;
      answers = 0 ∷ 2 ∷ 2 ∷ 3 ∷ 2 ∷ 0 ∷ 1 ∷ 0 ∷ 5 ∷ 3 ∷ 10 ∷ 2 ∷ 1 ∷ 5 ∷ 3 ∷ [];
      shows = 0 ∷ 0 ∷ 0 ∷ 0 ∷ [];
    }
    -- The plug between the first and the second.
    ∷ record {
      calls = [];
      lent = three 2;
      whole = 0;
      answered = 2;
      stores = 2;
      skipped = 2;
      tail = 3;
      number = 2;
      phase = 2;
      answers = 0 ∷ 2 ∷ 2 ∷ 3 ∷ 2 ∷ 10 ∷ 0 ∷ 0 ∷ 3 ∷ 2 ∷ 99 ∷ 99 ∷ 99 ∷ 99 ∷ 99 ∷ [];
      shows = 17 ∷ 0 ∷ 0 ∷ 0 ∷ [];
    }
    -- The second names block 9: 3, and the third is not answered.
    ∷ record {
      calls = [];
      lent = record { words = three_words; blocks = 0 ∷ 9 ∷ 1 ∷ 2 ∷ []; bytes = full 17 ++ full 18 ++ full 19; allowance = enough; answers = 15 };
      whole = 0;
      answered = 2;
      stores = 2;
      skipped = 2;
      tail = 3;
      number = 2;
      phase = 0;
      answers = 0 ∷ 2 ∷ 2 ∷ 3 ∷ 2 ∷ 3 ∷ 0 ∷ 0 ∷ 3 ∷ 2 ∷ 99 ∷ 99 ∷ 99 ∷ 99 ∷ 99 ∷ [];
      shows = 17 ∷ 0 ∷ 0 ∷ 0 ∷ [];
    }
    -- The second is a write with one byte too few, and of a block past L: that commit's 2.
    ∷ record {
      calls = [];
      lent = record { words = writing 0 1 ++ (0 ∷ 0 ∷ 1 ∷ 511 ∷ []); blocks = 0 ∷ 9 ∷ []; bytes = full 17 ++ replicate 511 18; allowance = enough; answers = 10 };
      whole = 0;
      answered = 2;
      stores = 2;
      skipped = 2;
      tail = 3;
      number = 2;
      phase = 0;
      answers = 0 ∷ 2 ∷ 2 ∷ 3 ∷ 2 ∷ 2 ∷ 0 ∷ 0 ∷ 3 ∷ 2 ∷ [];
      shows = 17 ∷ 0 ∷ 0 ∷ 0 ∷ [];
    }
    -- A drop that has bytes: 2.
    ∷ record {
      calls = [];
      lent = record { words = 1 ∷ 0 ∷ 1 ∷ 512 ∷ []; blocks = 0 ∷ []; bytes = full 17; allowance = enough; answers = 5 };
      whole = 0;
      answered = 1;
      stores = 0;
      skipped = 0;
      tail = 1;
      number = 1;
      phase = 0;
      answers = 2 ∷ 0 ∷ 0 ∷ 1 ∷ 1 ∷ [];
      shows = 0 ∷ 0 ∷ 0 ∷ 0 ∷ [];
    }
    -- A kind that is neither: 3, whatever its bytes.
    ∷ record {
      calls = [];
      lent = record { words = 2 ∷ 0 ∷ 1 ∷ 3 ∷ []; blocks = 0 ∷ []; bytes = 1 ∷ 2 ∷ 3 ∷ []; allowance = enough; answers = 5 };
      whole = 0;
      answered = 1;
      stores = 0;
      skipped = 0;
      tail = 1;
      number = 1;
      phase = 0;
      answers = 3 ∷ 0 ∷ 0 ∷ 1 ∷ 1 ∷ [];
      shows = 0 ∷ 0 ∷ 0 ∷ 0 ∷ [];
    }
    -- Of a parked volume: 4, of the first commit.
    ∷ record {
      calls = park enough ∷ [];
      lent = three enough;
      whole = 0;
      answered = 1;
      stores = 0;
      skipped = 0;
      tail = 1;
      number = 1;
      phase = 1;
      answers = 4 ∷ 0 ∷ 0 ∷ 1 ∷ 1 ∷ replicate 10 99;
      shows = 0 ∷ 0 ∷ 0 ∷ 0 ∷ [];
    }
    ∷ []

rows_hold : map (row_gives volume) rows ≡ map says rows
unfolding row_gives volume rows
rows_hold = refl

-- N 4, L 2, and so room for one written block.
small : Formatted
small = record { n = 4; l = 2; drive = one_track 4; stores = enough }

twice : Lent
twice = record { words = writing 2 1 ++ writing 2 1; blocks = 0 ∷ 1 ∷ []; bytes = full 17 ++ full 18; allowance = enough; answers = 10 }

small_rows : List Row
unfolding twice
small_rows =
    -- The second write has no room: 6.
    record {
      calls = [];
      lent = twice;
      whole = 0;
      answered = 2;
      stores = 2;
      skipped = 0;
      tail = 3;
      number = 2;
      phase = 0;
      answers = 0 ∷ 2 ∷ 0 ∷ 3 ∷ 2 ∷ 6 ∷ 0 ∷ 0 ∷ 3 ∷ 2 ∷ [];
      shows = 17 ∷ 0 ∷ [];
    }
    -- Two drops at the last number that another commit may follow: the second meets 7.
    ∷ record {
      calls = numbered 4294967039 ∷ [];
      lent = record { words = dropping 2 1 ++ dropping 2 1; blocks = 0 ∷ 0 ∷ []; bytes = []; allowance = enough; answers = 10 };
      whole = 0;
      answered = 2;
      stores = 1;
      skipped = 0;
      tail = 2;
      number = 4294967040;
      phase = 0;
      answers = 0 ∷ 1 ∷ 0 ∷ 2 ∷ 4294967040 ∷ 7 ∷ 0 ∷ 0 ∷ 2 ∷ 4294967040 ∷ [];
      shows = 0 ∷ 0 ∷ [];
    }
    ∷ []

small_hold : map (row_gives small) small_rows ≡ map says small_rows
unfolding row_gives small small_rows numbered
small_hold = refl

-- What a batch is judged by as a whole, on a running volume of 4 sectors and 2 blocks: its words and the lengths of its block numbers, bytes
-- and answers; beside them the lengths of the image and of the map, and the drive.
record Whole : Type 0 where
  words : List ℕ
  blocks : ℕ
  bytes : ℕ
  answers : ℕ
  image : ℕ
  map : ℕ
  drive : Drive
  refused : ℕ

whole_gives : Whole → ℕ
unfolding gives sum_below batch_fits batch_checks
whole_gives r =
    let m = memory (replicate r.image 0) (replicate r.map 0) (1 ∷ []) (1 ∷ []) (3 ∷ []) in
    verdict_number (judged (batch_checks (fresh_state (sized 4 2) r.drive 1 1) m r.words r.blocks r.bytes r.answers))

-- So many drops of one block each.
drops : ℕ → List ℕ
drops zero = []
drops (suc n) = dropping 0 1 ++ drops n

-- The right image, map and drive.
abbrev judged_by : List ℕ → ℕ → ℕ → ℕ → ℕ → Whole
judged_by words blocks bytes answers refused =
    record { words = words; blocks = blocks; bytes = bytes; answers = answers; image = 2048; map = 2; drive = one_track 4; refused = refused }

wholes : List Whole
unfolding drops
wholes =
    judged_by (drops 1) 1 0 5 0
    ∷ judged_by (drops 32) 32 0 160 0
    -- 12: no commit, or 33, one with wrong bytes too.
    ∷ judged_by [] 0 0 0 12
    ∷ judged_by (drops 33) 33 0 165 12
    ∷ judged_by (drops 32 ++ (0 ∷ 0 ∷ 1 ∷ 3 ∷ [])) 33 3 165 12
    -- 2 comes before 12: no commit, but block numbers, bytes or answers lent; or a map that is too long.
    ∷ judged_by [] 1 0 0 2
    ∷ judged_by [] 0 1 0 2
    ∷ judged_by [] 0 0 5 2
    ∷ record { words = []; blocks = 0; bytes = 0; answers = 0; image = 2048; map = 3; drive = one_track 4; refused = 2 }
    ∷ judged_by (drops 33) 32 0 165 2
    -- A word too many; counts that do not add up; too few and too many answers.
    ∷ judged_by (drops 1 ++ (0 ∷ [])) 1 0 5 2
    ∷ judged_by (drops 2) 1 0 10 2
    ∷ judged_by (drops 2) 3 0 10 2
    ∷ judged_by (writing 0 1) 1 511 5 2
    ∷ judged_by (writing 0 1) 1 513 5 2
    ∷ judged_by (drops 2) 2 0 9 2
    ∷ judged_by (drops 2) 2 0 11 2
    -- A sum past one word is not taken for what is left of it.
    ∷ judged_by ((1 ∷ 0 ∷ 4294967295 ∷ 0 ∷ []) ++ (1 ∷ 0 ∷ 2 ∷ 0 ∷ [])) 1 0 10 2
    -- 1 and 11 come first.
    ∷ record { words = []; blocks = 1; bytes = 0; answers = 0; image = 2047; map = 2; drive = tracked 3 1 0; refused = 1 }
    ∷ record { words = []; blocks = 1; bytes = 0; answers = 0; image = 2048; map = 2; drive = tracked 3 1 0; refused = 11 }
    ∷ []

wholes_hold : map whole_gives wholes ≡ map (λ r. r.refused) wholes
unfolding whole_gives wholes
wholes_hold = refl
