-- Two writes at full size, one on each side of the branch limit: 24 branches are listed, 25 fold. The same at the plan alone stands in `Limits`.
use Prim.Native.Nat.{ℕ, ◌+◌, ◌*◌}
use mathlib.Core.Path.{◌≡◌, refl}
use mathlib.Core.List.{List, [], ◌∷◌}
use Rattle.geometry.proofs.Sized.{one_track}
use lib.ListN.{length, replicate}
use Rattle.layout.specs.Bounded.{list_from}
use Rattle.tracks.specs.Upwards.{first_free, upwards}
use Rattle.volume.specs.Rules.{Rules, base}
use Rattle.volume.specs.Calls.{write_by}
use Rattle.volume.proofs.Rows.{Call, Formatted, Result, result_of, gives, outcome_of, live_sector, enough}

-- One write on a fresh volume, to the first block of every second piece: the branches that its first member lists, and the
-- fold. A row shows the result, and the first and the last map sector of the commit.
record Seen : Type 0 where
  result : Result
  first : List ℕ
  last : List ℕ

-- The rules of the calls, but with document 01's search: on one track it takes the same sectors (`laws/proofs/OneTrack`), and it is
-- shorter to compute. It counts nothing as skipped.
upward_rules : Rules
upward_rules = record { placing = λ _. upwards; branch_limit = base.branch_limit; greatest = base.greatest }

write : ℕ → List ℕ → ℕ → ℕ → Call
write head blocks byte allowance s m = write_by upward_rules s m head blocks (replicate (512 * length blocks) byte) allowance

record Wide : Type 0 where
  format : Formatted
  touched : ℕ
  first : ℕ
  last : ℕ
  says : Seen

wide_gives : Wide → Seen
unfolding gives outcome_of first_free upward_rules write
wide_gives w =
    let a = outcome_of w.format (write 0 (list_from (λ i. 96 * (i + i + 1)) 0 w.touched) 1 enough ∷ []) in
    record {
      result = result_of a;
      first = live_sector w.format a.memory w.first;
      last = live_sector w.format a.memory w.last;
    }

-- 47 pieces, of which 23 are touched: the other 24 are listed.
listed24 : Wide
listed24 =
    record {
      format = record { n = 120; l = 4512; drive = one_track 120; stores = enough };
      touched = 23;
      first = 1;
      last = 45;
      says = record {
        result = record { answer = 0; stores = 46; skipped = 0; way = 0; reads = 0; tail = 93; number = 70; phase = 0 };
        first = 71 ∷ 48 ∷ 1 ∷ 0 ∷ 47 ∷ 45 ∷ 43 ∷ 41 ∷ 39 ∷ 37 ∷ 35 ∷ 33 ∷ 31 ∷ 29 ∷ 27 ∷ 25 ∷ 23 ∷ 21 ∷ 19 ∷ 17 ∷ 15 ∷ 13 ∷ 11 ∷ 9 ∷ 7 ∷ 5 ∷ 3 ∷ 1 ∷ [];
        last = 93 ∷ 70 ∷ 45 ∷ 1 ∷ 92 ∷ [];
      };
    }

-- 49 pieces, of which 24 are touched: 25 would be listed, so all are written.
folded25 : Wide
folded25 =
    record {
      format = record { n = 124; l = 4704; drive = one_track 124; stores = enough };
      touched = 24;
      first = 0;
      last = 48;
      says = record {
        result = record { answer = 0; stores = 73; skipped = 0; way = 0; reads = 0; tail = 122; number = 98; phase = 0 };
        first = 74 ∷ 50 ∷ 0 ∷ 0 ∷ [];
        last = 122 ∷ 98 ∷ 48 ∷ 1 ∷ 121 ∷ [];
      };
    }

listed_holds : wide_gives listed24 ≡ listed24.says
unfolding wide_gives listed24
listed_holds = refl

folded_holds : wide_gives folded25 ≡ folded25.says
unfolding wide_gives folded25
folded_holds = refl
