-- The refusals of a read, as a small table with a theorem.
use Prim.Native.Nat.{ℕ}
use mathlib.Core.Path.{◌≡◌, refl}
use mathlib.Core.List.{List, [], ◌∷◌, map}
use lib.ListN.{replicate}
use Rattle.answer.specs.declared.Answer.TheVariants.{Accepted}
use Rattle.answer.specs.Answer.{stores_alone}
use Rattle.layout.specs.Bounded.{updated}
use Rattle.answer.specs.Answer.{number_of}
use Rattle.geometry.proofs.Sized.{one_track}
use Rattle.volume.specs.Store.{after, memory_with}
use Rattle.volume.specs.Calls.{read_of}
use Rattle.volume.proofs.Rows.{Call, gives, outcome_of, enough, park}

-- Reads, with the length of what they are lent to fill: the number that each answers.
record Reading : Type 0 where
  calls : List Call
  block : ℕ
  lent : ℕ
  says : ℕ

read_gives : Reading → ℕ
unfolding gives outcome_of
read_gives r =
    let a = outcome_of (record { n = 12; l = 200; drive = one_track 12; stores = enough }) r.calls in
    number_of (read_of a.outcome.state a.memory r.block (replicate r.lent 238)).outcome.answer

-- The entry of block 5 changed by hand.
entry_is : ℕ → Call
entry_is word s m =
    after (record { answer = Accepted (stores_alone 0); state = s })
    (memory_with m m.image
    (record {
      entry = updated m.tables.entry 5 word;
      place = m.tables.place;
      number = m.tables.number;
      is_used = m.tables.is_used;
    }))

readings : List Reading
readings =
    record { calls = []; block = 199; lent = 512; says = 0 }
    ∷ record { calls = park enough ∷ []; block = 5; lent = 512; says = 0 }
    ∷ record { calls = []; block = 5; lent = 511; says = 2 }
    ∷ record { calls = []; block = 200; lent = 512; says = 3 }
    ∷ record { calls = park 0 ∷ []; block = 5; lent = 512; says = 4 }
    ∷ record { calls = entry_is 12 ∷ []; block = 5; lent = 512; says = 5 }
    ∷ record { calls = entry_is 0x80000000 ∷ []; block = 5; lent = 512; says = 5 }
    ∷ record { calls = entry_is 0x8000000B ∷ []; block = 5; lent = 512; says = 0 }
    ∷ []

readings_hold : map read_gives readings ≡ map (λ r. r.says) readings
unfolding read_gives readings entry_is
readings_hold = refl
