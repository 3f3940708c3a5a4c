-- What a program sees of a list of calls: of each the outcome, and what then stands in the buffers that it lent. Each of the six calls promises
-- one equation, the `ensures` of its function. Nothing else is known here of the code.
use Rattle.std.specs.Prelude.{ℕ, ◌*◌, ◌-◌, ◌≤◌, ◌<◌, ◌≡◌, Bool, true, List, [], ◌∷◌, length}
use Rattle.geometry.specs.declared.Geometry.{Geometry}
use Rattle.geometry.specs.declared.Drive.{Drive}
use Rattle.geometry.specs.declared.Settings.{Settings}
use Rattle.geometry.specs.Geometry.{settings_of, drive_fits}
use Rattle.state.specs.declared.State.{State}
use Rattle.state.specs.declared.Outcome.{Outcome}
use Rattle.state.specs.declared.BatchOutcome.{BatchOutcome}
use Rattle.answer.specs.Answer.{number_of}
use Rattle.layout.specs.Bounded.{at, is_zero, list_from}
use Rattle.volume.specs.Tables.{Memory, memory, sector_at}
use Rattle.volume.specs.Store.{after}
use Rattle.volume.specs.Format.{format_of}
use Rattle.volume.specs.Calls.{write_of, drop_of, read_of, park_of}
use Rattle.volume.specs.Recover.{recover_of}
use Rattle.batches.specs.Batch.{answer_words, batch_of}
use Rattle.history.specs.History.{Call, write, drop, batch, read, park, recover, whole_outcome, Disk, disk_after, Marked, CommitKept, recovery_stores}

-- The buffers that are lent to every call.
pub record Buffers : Type 0 where
  pub image : List ℕ
  pub map : List ℕ
  pub places : List ℕ
  pub numbers : List ℕ
  pub used : List ℕ

abbrev pub held_in : Buffers → Memory
held_in b = memory b.image b.map b.places b.numbers b.used

-- What is seen after a call: what it handed back, the buffers as it left them, and its own, the bytes of a read or the answers of a
-- batch; and of a batch how many commits it answered.
pub record Seen : Type 0 where
  pub outcome : Outcome
  pub buffers : Buffers
  pub out : List ℕ
  pub answered : ℕ

abbrev pub IsAccepted : Seen → Type 0
IsAccepted r = number_of r.outcome.answer ≡ 0

-- The promise of format.
abbrev pub FormatMeets : State → Buffers → Settings → ℕ → Seen → Type 0
FormatMeets s b settings allowance r = after r.outcome (held_in r.buffers) ≡ format_of s (held_in b) settings allowance

-- The promises of the other calls of a volume. A read is lent all but its own bytes shared, so that the buffers stay.
unfoldable pub Meets : Geometry → State → Buffers → Call → Seen → Type 0
Meets g s b (write head blocks bytes allowance) r =
    after r.outcome (held_in r.buffers) ≡ write_of s (held_in b) head blocks bytes allowance
Meets g s b (drop head blocks allowance) r = after r.outcome (held_in r.buffers) ≡ drop_of s (held_in b) head blocks allowance
Meets g s b (batch words blocks bytes allowance answers) r =
    (o : BatchOutcome) × (record { outcome = o; memory = held_in r.buffers; answers = r.out } ≡ batch_of s (held_in b) words blocks bytes allowance answers)
    × (r.outcome ≡ whole_outcome o) × (r.answered ≡ o.answered)
Meets g s b (read block out) r =
    (record { outcome = r.outcome; memory = held_in b; out = r.out } ≡ read_of s (held_in b) block out) × (r.buffers ≡ b)
Meets g s b (park allowance) r = after r.outcome (held_in r.buffers) ≡ park_of s (held_in b) allowance
Meets g s b (recover drive allowance) r = after r.outcome (held_in r.buffers) ≡ recover_of s (held_in b) (settings_of g drive) allowance

-- A run: each call gets state and buffers as the last one left them, refused and cut ones too, and meets its promise.
unfoldable pub Run : Geometry → State → Buffers → List Call → List Seen → Type 0
Run g s b [] [] = Unit {0}
Run g s b [] (r ∷ rs) = ⊥
Run g s b (call ∷ calls) [] = ⊥
Run g s b (call ∷ calls) (r ∷ rs) = Meets g s b call r × Run g r.outcome.state r.buffers calls rs

-- Which acceptances are seen: of a batch, by the first of the words that answer each commit.
unfoldable pub seen_acceptances : Call → Seen → List Bool
seen_acceptances (write head blocks bytes allowance) r = is_zero (number_of r.outcome.answer) ∷ []
seen_acceptances (drop head blocks allowance) r = is_zero (number_of r.outcome.answer) ∷ []
seen_acceptances (batch words blocks bytes allowance answers) r = list_from (λ i. is_zero (at r.out (answer_words * i))) 0 r.answered
seen_acceptances (read block out) r = is_zero (number_of r.outcome.answer) ∷ []
seen_acceptances (park allowance) r = is_zero (number_of r.outcome.answer) ∷ []
seen_acceptances (recover drive allowance) r = is_zero (number_of r.outcome.answer) ∷ []

-- What is seen of one call: (a) and (b) of `History.Kept`. Between two commits of a batch nothing is seen; after one whose every commit
-- was accepted it is what stands after its last.
unfoldable pub KeptSeen : Geometry → Buffers → Disk → Call → Seen → Type 0
KeptSeen g b disk (write head blocks bytes allowance) r = IsAccepted r → CommitKept g (held_in b) (held_in r.buffers)
KeptSeen g b disk (drop head blocks allowance) r = IsAccepted r → CommitKept g (held_in b) (held_in r.buffers)
KeptSeen g b disk (batch words blocks bytes allowance answers) r =
    IsAccepted r → 0 < r.answered → at r.out (answer_words * (r.answered - 1)) ≡ 0 → Marked g (held_in r.buffers)
KeptSeen g b disk (read block out) r = IsAccepted r → r.out ≡ disk block
KeptSeen g b disk (park allowance) r = Unit {0}
KeptSeen g b disk (recover drive allowance) r = Unit {0}

-- (c): the image is what is left, with other tables of the same lengths and any state; a recovery on any drive that holds the sectors, with
-- stores enough, and a read of each block after it.
pub record RecoversSeen (g : Geometry) (b : Buffers) (disk : Disk) : Type 0 where
  pub recovered : (drive : Drive) → drive_fits g.n drive ≡ true
      → (s : State) (other : Buffers) (allowance : ℕ) (r : Seen) → other.image ≡ b.image
      → (held_in other).lengths ≡ (held_in b).lengths → length (recovery_stores g (sector_at b.image)) ≤ allowance
      → Meets g s other (recover drive allowance) r
      → IsAccepted r
      × ((block : ℕ) (out : List ℕ) (q : Seen) → block < g.l → length out ≡ 512
      → Meets g r.outcome.state r.buffers (read block out) q → IsAccepted q × (q.out ≡ disk block))

-- Demand 3 of what is seen.
unfoldable pub FaithfulSeen : Geometry → List Call → List Seen → Buffers → Disk → Type 0
FaithfulSeen g [] [] b disk = RecoversSeen g b disk
FaithfulSeen g [] (r ∷ rs) b disk = ⊥
FaithfulSeen g (call ∷ calls) [] b disk = ⊥
FaithfulSeen g (call ∷ calls) (r ∷ rs) b disk =
    KeptSeen g b disk call r × FaithfulSeen g calls rs r.buffers (disk_after call (seen_acceptances call r) disk)
