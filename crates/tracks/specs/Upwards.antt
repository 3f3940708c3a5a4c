-- Document 01, "Placing", to the letter: the search of a drive that has no tracks. The calls do not go by it; on one track they take
-- the sectors that it takes (`laws/proofs/OneTrack`).
use Rattle.std.specs.Prelude.{ℕ, zero, suc, Bool, cond, ltb}
use Rattle.tracks.specs.Placing.{Choice}

-- The sector after k: upwards, and from N - 1 on to 1.
abbrev pub sector_after : ℕ → ℕ → ℕ
sector_after n k = cond (ltb (suc k) n) (suc k) 1

-- The first free sector from k on, looking at `steps` sectors at most.
unfoldable pub first_free : ℕ → (ℕ → Bool) → ℕ → ℕ → ℕ
first_free n is_used zero k = k
first_free n is_used (suc steps) k =
    let later = first_free n is_used steps (sector_after n k) in
    cond (is_used k) later k

-- Document 01 counts no sectors skipped.
abbrev pub upwards : Choice
upwards = record { choose = λ n is_used start. record { sector = first_free n is_used n start; skipped = 0 }; next = sector_after }
