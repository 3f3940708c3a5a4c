-- What no call does: the image changed by hand, and a volume whose numbers are nearly used up.
use Prim.Native.Nat.{ℕ}
use mathlib.Core.Bool.{Bool, true}
use mathlib.Core.List.{List, [], ◌∷◌}
use lib.ListN.{replicate}
use Rattle.answer.specs.declared.Answer.TheVariants.{Accepted}
use Rattle.answer.specs.Answer.{stores_alone}
use Rattle.layout.specs.Bounded.{updated}
use Rattle.layout.specs.MapSector.{encoded}
use Rattle.layout.specs.Entry.{blank}
use Rattle.layout.specs.ParkRecord.{park_record}
use Rattle.state.specs.State.{fresh_state}
use Rattle.volume.specs.Store.{after, memory_with}
use Rattle.layout.proofs.Conditions.{signed}
use Rattle.volume.proofs.Rows.{Call}

unfoldable pub overwritten : ℕ → List ℕ → Call
overwritten k bytes s m = after (record { answer = Accepted (stores_alone 0); state = s }) (memory_with m (updated m.image k bytes) m.tables)

unfoldable pub blank_at : ℕ → Call
blank_at k = overwritten k blank

unfoldable pub copied : ℕ → ℕ → Call
copied from to s m = overwritten to (m.image from) s m

unfoldable pub signed_at : ℕ → ℕ → ℕ → Bool → List ℕ → Call
signed_at k number piece closing branches = overwritten k (signed number piece closing branches)

-- The same with one entry, the piece's first.
unfoldable pub naming_at : ℕ → ℕ → ℕ → Bool → List ℕ → ℕ → Call
naming_at k number piece closing branches entry =
    overwritten k
    (encoded 200
    (record { number = number; piece = piece; closing = closing; branches = branches; entries = entry ∷ replicate 95 0 }))

unfoldable pub parked_at : ℕ → ℕ → Call
parked_at number tail = overwritten 0 (park_record (record { number = number; tail = tail }))

-- Volume A with another number on its one map sector.
unfoldable pub numbered : ℕ → Call
numbered number s m =
    after (record { answer = Accepted (stores_alone 0); state = fresh_state s.geometry s.drive s.tail number })
    (memory_with m
    (updated m.image 1
    (encoded 2 (record { number = number; piece = 0; closing = true; branches = []; entries = replicate 96 0 })))
    (record {
      entry = m.tables.entry;
      place = m.tables.place;
      number = updated m.tables.number 0 number;
      is_used = m.tables.is_used;
    }))
