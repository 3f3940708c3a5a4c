-- The drive of a volume: refusal 11 and its place in the order, and what each call leaves of the settings.
use Prim.Native.Nat.{ℕ}
use mathlib.Core.Path.{◌≡◌, refl}
use mathlib.Core.Bool.{true}
use mathlib.Core.List.{List, [], ◌∷◌, map}
use lib.ListN.{replicate}
use Rattle.geometry.specs.declared.Drive.{Drive}
use Rattle.geometry.proofs.Sized.{sized, tracked, asked}
use Rattle.state.specs.State.{fresh_state}
use Rattle.answer.specs.declared.Answer.TheVariants.{Accepted}
use Rattle.answer.specs.Answer.{stores_alone, verdict_number, number_of}
use Rattle.volume.specs.Tables.{memory}
use Rattle.volume.specs.Refusals.{applies, first_of, judged}
use Rattle.volume.specs.Store.{after}
use Rattle.volume.specs.Format.{image_fits, tables_fit, size_checks, format_of}
use Rattle.volume.specs.Calls.{state_fits, state_checks, read_of}
use Rattle.volume.proofs.Rows.{Call, gives, outcome_of, enough, write, drop, park, recover_on}
use Rattle.volume.proofs.ByHand.{overwritten, blank_at, copied}

-- A call on a state, and a format or a recovery, of N sectors and L blocks on a drive, lent an image of N sectors or one of
-- another length and a map of L words or another: the number that they turn back with.
record Judged : Type 0 where
  n : ℕ
  l : ℕ
  drive : Drive
  image : ℕ
  map : ℕ
  on_state : ℕ
  given : ℕ

judged_gives : Judged → List ℕ
unfolding memory applies first_of judged image_fits tables_fit size_checks state_fits
judged_gives r =
    let m = memory (replicate r.image 0) (replicate r.map 0) (0 ∷ []) (0 ∷ []) (0 ∷ []) in
    verdict_number (judged (state_checks (fresh_state (sized r.n r.l) r.drive 1 1) m true))
    ∷ verdict_number (judged (size_checks m (asked r.l r.drive))) ∷ []

judgements : List Judged
judgements =
    record { n = 6; l = 2; drive = tracked 3 2 255; image = 3072; map = 2; on_state = 0; given = 0 }
    ∷ record { n = 6; l = 2; drive = tracked 1 6 0; image = 3072; map = 2; on_state = 0; given = 0 }
    -- The switch is too long, there is no sector a track or no track, the product is not N.
    ∷ record { n = 6; l = 2; drive = tracked 3 2 256; image = 3072; map = 2; on_state = 11; given = 11 }
    ∷ record { n = 6; l = 2; drive = tracked 0 6 0; image = 3072; map = 2; on_state = 11; given = 11 }
    ∷ record { n = 6; l = 2; drive = tracked 6 0 0; image = 3072; map = 2; on_state = 11; given = 11 }
    ∷ record { n = 6; l = 2; drive = tracked 2 2 0; image = 3072; map = 2; on_state = 11; given = 11 }
    -- 1 is judged before 11, and 11 before 2.
    ∷ record { n = 6; l = 0; drive = tracked 2 2 0; image = 3072; map = 0; on_state = 1; given = 1 }
    ∷ record { n = 5; l = 2; drive = tracked 5 1 0; image = 3072; map = 2; on_state = 1; given = 11 }
    ∷ record { n = 6; l = 2; drive = tracked 2 2 0; image = 3072; map = 3; on_state = 11; given = 11 }
    ∷ record { n = 6; l = 2; drive = tracked 3 2 0; image = 3072; map = 3; on_state = 2; given = 2 }
    ∷ []

judgements_hold : map judged_gives judgements ≡ map (λ r. r.on_state ∷ r.given ∷ []) judgements
unfolding judged_gives judgements
judgements_hold = refl

-- Calls on a volume of 4 sectors and 2 blocks that was formatted with two tracks of two sectors and a switch of 1: the last answer,
-- and the drive of the state that it hands back.
record Keeping : Type 0 where
  calls : List Call
  answer : ℕ
  leaves : Drive

format_on : Drive → ℕ → ℕ → Call
format_on drive l allowance s m = format_of s m (asked l drive) allowance

-- A state that someone changed.
on_drive : Drive → Call
on_drive drive s m =
    after (record { answer = Accepted (stores_alone 0); state = record { geometry = s.geometry; drive = drive; tail = s.tail; number = s.number; phase = s.phase } }) m

read_back : Call
read_back s m = let r = read_of s m 0 (replicate 512 0) in after r.outcome r.memory

keeping_gives : Keeping → List ℕ
unfolding gives outcome_of
keeping_gives r =
    let a = outcome_of (record { n = 4; l = 2; drive = tracked 2 2 1; stores = enough }) r.calls in
    let drive = a.outcome.state.drive in
    number_of a.outcome.answer ∷ drive.sectors ∷ drive.tracks ∷ drive.switch ∷ []

keepings : List Keeping
unfolding format_on on_drive read_back blank_at copied overwritten
keepings =
    record { calls = []; answer = 0; leaves = tracked 2 2 1 }
    ∷ record { calls = write 2 (0 ∷ []) 7 enough ∷ []; answer = 0; leaves = tracked 2 2 1 }
    ∷ record { calls = drop 2 (0 ∷ []) 0 ∷ []; answer = 10; leaves = tracked 2 2 1 }
    ∷ record { calls = read_back ∷ []; answer = 0; leaves = tracked 2 2 1 }
    ∷ record { calls = park enough ∷ []; answer = 0; leaves = tracked 2 2 1 }
    ∷ record { calls = park 0 ∷ []; answer = 10; leaves = tracked 2 2 1 }
    -- A recovery is given others, is cut, or finds no log or a damaged one.
    ∷ record { calls = recover_on (tracked 4 1 9) 2 enough ∷ []; answer = 0; leaves = tracked 4 1 9 }
    ∷ record { calls = park enough ∷ recover_on (tracked 4 1 9) 2 0 ∷ []; answer = 10; leaves = tracked 4 1 9 }
    ∷ record { calls = blank_at 1 ∷ recover_on (tracked 4 1 9) 2 enough ∷ []; answer = 8; leaves = tracked 4 1 9 }
    ∷ record { calls = copied 1 2 ∷ recover_on (tracked 4 1 9) 2 enough ∷ []; answer = 9; leaves = tracked 4 1 9 }
    ∷ record { calls = format_on (tracked 1 4 7) 2 3 ∷ []; answer = 10; leaves = tracked 1 4 7 }
    -- What is given is refused, and what the state holds, by every call that is handed one.
    ∷ record { calls = format_on (tracked 3 1 0) 2 enough ∷ []; answer = 11; leaves = tracked 2 2 1 }
    ∷ record { calls = recover_on (tracked 3 1 0) 2 enough ∷ []; answer = 11; leaves = tracked 2 2 1 }
    ∷ record { calls = on_drive (tracked 3 1 0) ∷ write 2 (0 ∷ []) 7 enough ∷ []; answer = 11; leaves = tracked 3 1 0 }
    ∷ record { calls = on_drive (tracked 3 1 0) ∷ drop 2 (0 ∷ []) enough ∷ []; answer = 11; leaves = tracked 3 1 0 }
    ∷ record { calls = on_drive (tracked 3 1 0) ∷ read_back ∷ []; answer = 11; leaves = tracked 3 1 0 }
    ∷ record { calls = on_drive (tracked 3 1 0) ∷ park enough ∷ []; answer = 11; leaves = tracked 3 1 0 }
    -- Format and recover look at nothing in the state.
    ∷ record { calls = on_drive (tracked 3 1 0) ∷ recover_on (tracked 4 1 9) 2 enough ∷ []; answer = 0; leaves = tracked 4 1 9 }
    ∷ []

keepings_hold : map keeping_gives keepings ≡ map (λ r. r.answer ∷ r.leaves.sectors ∷ r.leaves.tracks ∷ r.leaves.switch ∷ []) keepings
unfolding keeping_gives keepings
keepings_hold = refl
