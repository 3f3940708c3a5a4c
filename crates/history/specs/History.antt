-- Document 01, "Whole histories": lists of calls, the plain disk, and what is live in an image.
use Rattle.std.specs.Prelude.{ℕ, ◌-◌, ◌≤◌, ◌<◌, ◌≡◌, Bool, true, false, cond, List, [], ◌∷◌, length, eqb, Result, Ok, Err, ⊤}
use Rattle.std.proofs.Math.Option.{some}
use Rattle.geometry.specs.declared.Geometry.{Geometry}
use Rattle.geometry.specs.declared.Drive.{Drive}
use Rattle.state.specs.declared.State.{State}
use Rattle.geometry.specs.Geometry.{pieces_for, settings_of, drive_fits}
use Rattle.state.specs.declared.Outcome.{Outcome}
use Rattle.state.specs.declared.BatchOutcome.{BatchOutcome}
use Rattle.answer.specs.declared.Refusal.{Refusal}
use Rattle.answer.specs.declared.Cost.{Cost}
use Rattle.answer.specs.declared.Answer.{Answer}
use Rattle.answer.specs.declared.Answer.TheVariants.{Accepted, Refused}
use Rattle.answer.specs.Answer.{number_of, cost_of}
use Rattle.layout.specs.Bounded.{at, elem, is_zero, updates}
use Rattle.layout.specs.MapSector.{MapSector, View}
use Rattle.layout.specs.Entry.{blank}
use Rattle.volume.specs.Tables.{Tables, Memory, sector_at, named_by, used_by}
use Rattle.volume.specs.Store.{Store, After, after, memory_with}
use Rattle.volume.specs.Refusals.{judged}
use Rattle.volume.specs.Rules.{Rules}
use Rattle.batches.specs.Batch.{Commit, commit_made, Answered, commits_made, commits_in, batch_checks, batch_by}
use Rattle.volume.specs.Calls.{write_by, drop_by, read_of, park_of}
use Rattle.volume.specs.Recover.{Finding, found, missing, image_view, newest_closing, closed_up_to, scan_place, scanned_log, finding_of, recover_of}

-- A call of a list with all its arguments, right or wrong: head, block numbers, bytes and allowance; a batch's commits in words, their
-- block numbers, bytes and allowance, and the words lent for the answers; a read's own bytes. Recover gets the L of the format, and a
-- drive of its own.
pub data Call : Type 0 where
  write : ℕ → List ℕ → List ℕ → ℕ → Call
  drop : ℕ → List ℕ → ℕ → Call
  batch : List ℕ → List ℕ → List ℕ → ℕ → List ℕ → Call
  read : ℕ → List ℕ → Call
  park : ℕ → Call
  recover : Drive → ℕ → Call

-- What one call hands on to the next: the state, the image and the tables.
pub record World : Type 0 where
  pub state : State
  pub memory : Memory

-- The run of a batch: refused as a whole it answers for no commit.
abbrev pub unless_whole : Result ⊤ Refusal → State → Memory → Answered → Answered
unless_whole (Ok u) s m done = done
unless_whole (Err r) s m done = record { outcomes = []; state = s; memory = m }

unfoldable pub batch_run : Rules → World → List ℕ → List ℕ → List ℕ → ℕ → List ℕ → Answered
batch_run rules w words blocks bytes allowance answers =
    let s = w.state in
    let m = w.memory in
    unless_whole (judged (batch_checks s m words (length blocks) (length bytes) (length answers))) s m
    (commits_made rules s m (commits_in words blocks bytes) allowance)

-- What a batch answers as a whole.
abbrev pub whole_answer : Result ⊤ Refusal → Cost → Answer
whole_answer (Ok u) cost = Accepted cost
whole_answer (Err r) cost = Refused r

abbrev pub whole_outcome : BatchOutcome → Outcome
whole_outcome o = record { answer = whole_answer o.verdict o.cost; state = o.state }

-- What a call does on a volume that was formatted as g: a recovery takes from g what it must be given as the format was.
unfoldable pub made : Rules → Geometry → World → Call → After
made rules g w (write head blocks bytes allowance) = write_by rules w.state w.memory head blocks bytes allowance
made rules g w (drop head blocks allowance) = drop_by rules w.state w.memory head blocks allowance
made rules g w (batch words blocks bytes allowance answers) =
    let r = batch_by rules w.state w.memory words blocks bytes allowance answers in
    after (whole_outcome r.outcome) r.memory
made rules g w (read block out) =
    let r = read_of w.state w.memory block out in
    after r.outcome r.memory
made rules g w (park allowance) = park_of w.state w.memory allowance
made rules g w (recover drive allowance) = recover_of w.state w.memory (settings_of g drive) allowance

abbrev pub world_of : After → World
world_of a = record { state = a.outcome.state; memory = a.memory }

abbrev pub accepted : After → Bool
accepted a = is_zero (number_of a.outcome.answer)

-- The outcomes of a call: a batch has one for each commit that it answers.
unfoldable pub outcomes_of : Rules → Geometry → World → Call → List Outcome
outcomes_of rules g w (write head blocks bytes allowance) = (made rules g w (write head blocks bytes allowance)).outcome ∷ []
outcomes_of rules g w (drop head blocks allowance) = (made rules g w (drop head blocks allowance)).outcome ∷ []
outcomes_of rules g w (batch words blocks bytes allowance answers) = (batch_run rules w words blocks bytes allowance answers).outcomes
outcomes_of rules g w (read block out) = (made rules g w (read block out)).outcome ∷ []
outcomes_of rules g w (park allowance) = (made rules g w (park allowance)).outcome ∷ []
outcomes_of rules g w (recover drive allowance) = (made rules g w (recover drive allowance)).outcome ∷ []

-- Which of them are acceptances.
unfoldable pub acceptances : List Outcome → List Bool
acceptances [] = []
acceptances (o ∷ os) = is_zero (number_of o.answer) ∷ acceptances os

-- The plain disk: L blocks, zero at the start.
abbrev pub Disk : Type 0
Disk = ℕ → List ℕ

abbrev pub zero_disk : Disk
zero_disk b = blank

-- The named blocks hold this.
unfoldable pub put_blocks : Disk → List ℕ → (ℕ → List ℕ) → Disk
put_blocks disk blocks content = updates disk (at blocks) content (length blocks)

-- A commit that was accepted.
unfoldable pub disk_commit : Commit → Disk → Disk
disk_commit c disk = put_blocks disk c.blocks (cond (eqb c.kind 0) (sector_at c.bytes) (λ _. blank))

-- Commits made singly, of which these were accepted. One that was not answered changes nothing.
unfoldable pub disk_commits : List Commit → List Bool → Disk → Disk
disk_commits [] oks disk = disk
disk_commits (c ∷ cs) [] disk = disk
disk_commits (c ∷ cs) (ok ∷ oks) disk = disk_commits cs oks (cond ok (disk_commit c disk) disk)

-- Whether a call that is no batch was accepted.
abbrev pub is_first : List Bool → Bool
is_first [] = false
is_first (ok ∷ oks) = ok

-- It sees of a call only its kind, block numbers, bytes and whether it was accepted; a batch it takes as its answered commits made
-- singly.
unfoldable pub disk_after : Call → List Bool → Disk → Disk
disk_after (write head blocks bytes allowance) oks disk = cond (is_first oks) (put_blocks disk blocks (sector_at bytes)) disk
disk_after (drop head blocks allowance) oks disk = cond (is_first oks) (put_blocks disk blocks (λ _. blank)) disk
disk_after (batch words blocks bytes allowance answers) oks disk = disk_commits (commits_in words blocks bytes) oks disk
disk_after (read block out) oks disk = disk
disk_after (park allowance) oks disk = disk
disk_after (recover drive allowance) oks disk = disk

-- An image's live map sectors are those a scan of it takes, one a piece; its tail is the map sector numbered C.
abbrev pub live_place : ℕ → View → ℕ → ℕ
live_place n view = scan_place n view (closed_up_to n view)

-- Its live sectors: those, and the data sectors that their non-zero entries name.
abbrev pub live_sectors : Geometry → View → List ℕ
live_sectors g view =
    let log = scanned_log g view (closed_up_to g.n view) in
    named_by g.l log.tables.entry log.tables.place

-- The live map sector of a piece is reached from the tail, a signed sector, branch by branch to lower numbers, through live map
-- sectors alone.
pub data Reaches (view : View) (live : ℕ → ℕ) (pieces tail : ℕ) : ℕ → Type 0 where
  itself : {p : ℕ} {m : MapSector} → p < pieces → live p ≡ tail → view tail ≡ some m → Reaches view live pieces tail p
  through : {q p : ℕ} {a b : MapSector} → Reaches view live pieces tail q → view (live q) ≡ some a → p < pieces
      → elem (live p) a.branches ≡ true → view (live p) ≡ some b → b.number < a.number → Reaches view live pieces tail p

-- (b) "After each accepted commit the used map marks sector 0 and the live sectors and no other, so all it superseded is free;
-- and from the tail, branch by branch to lower numbers, through live map sectors alone, each of them is reached." Live is what a
-- scan of the image takes; a commit supersedes what is live before it and not after.
pub record Marked (g : Geometry) (now : Memory) : Type 0 where
  pub used : (k : ℕ) → now.tables.is_used k ≡ used_by (live_sectors g (image_view g now.image)) k
  pub reached : (p : ℕ) → p < pieces_for g.l
      → Reaches (image_view g now.image) (live_place g.n (image_view g now.image)) (pieces_for g.l) (newest_closing g.n (image_view g now.image)) p

pub record CommitKept (g : Geometry) (before now : Memory) : Type 0 where
  pub marked : Marked g now
  pub freed : (k : ℕ) → elem k (live_sectors g (image_view g before.image)) ≡ true
      → elem k (live_sectors g (image_view g now.image)) ≡ false → now.tables.is_used k ≡ false

-- After each accepted commit of a batch, too.
unfoldable pub CommitsKept : Rules → Geometry → State → Memory → List Commit → ℕ → Type 0
CommitsKept rules g s m [] allowance = Unit {0}
CommitsKept rules g s m (c ∷ cs) allowance =
    accepted (commit_made rules s m c allowance) ≡ true
    → CommitKept g m (commit_made rules s m c allowance).memory
    × CommitsKept rules g (commit_made rules s m c allowance).outcome.state (commit_made rules s m c allowance).memory cs
    (allowance - (cost_of (commit_made rules s m c allowance).outcome.answer).stores)

-- What a call of a list keeps. (a) "An accepted read in the list gives its block as the plain disk then has it."
unfoldable pub Kept : Rules → Geometry → World → Disk → Call → Type 0
Kept rules g w disk (write head blocks bytes allowance) =
    accepted (made rules g w (write head blocks bytes allowance)) ≡ true
    → CommitKept g w.memory (made rules g w (write head blocks bytes allowance)).memory
Kept rules g w disk (drop head blocks allowance) =
    accepted (made rules g w (drop head blocks allowance)) ≡ true
    → CommitKept g w.memory (made rules g w (drop head blocks allowance)).memory
Kept rules g w disk (batch words blocks bytes allowance answers) =
    accepted (made rules g w (batch words blocks bytes allowance answers)) ≡ true
    → CommitsKept rules g w.state w.memory (commits_in words blocks bytes) allowance
Kept rules g w disk (read block out) =
    accepted (made rules g w (read block out)) ≡ true → (read_of w.state w.memory block out).out ≡ disk block
Kept rules g w disk (park allowance) = Unit {0}
Kept rules g w disk (recover drive allowance) = Unit {0}

-- The list of stores of a recovery.
unfoldable pub stores_in : Finding → List Store
stores_in (found log answer stores) = stores
stores_in (missing refusal) = []

abbrev pub recovery_stores : Geometry → (ℕ → List ℕ) → List Store
recovery_stores g image = stores_in (finding_of g (image_view g image) (image 0))

-- (c) "After the list, a recover of the image it left with that L, whatever tables and state then hold, ... to which none of 1 to 7,
-- nor any number later placed among them, applies, and with enough stores for its list, is accepted, and a read of each block below
-- L, given what that recover left, gives the plain disk's." Document 02: "What comes back after a cut is promised for every setting":
-- the drive is any that 11 does not apply to, the format's or another.
pub record Recovers (g : Geometry) (m : Memory) (disk : Disk) : Type 0 where
  pub accepts : (drive : Drive) → drive_fits g.n drive ≡ true → (s : State) (t : Tables) (allowance : ℕ)
      → length (recovery_stores g m.image) ≤ allowance
      → accepted (recover_of s (memory_with m m.image t) (settings_of g drive) allowance) ≡ true
  pub reads : (drive : Drive) → drive_fits g.n drive ≡ true → (s : State) (t : Tables) (allowance : ℕ)
      → length (recovery_stores g m.image) ≤ allowance
      → (b : ℕ) (out : List ℕ) → b < g.l → length out ≡ 512
      → (number_of (read_of (recover_of s (memory_with m m.image t) (settings_of g drive) allowance).outcome.state
      (recover_of s (memory_with m m.image t) (settings_of g drive) allowance).memory b out).outcome.answer ≡ 0)
      × ((read_of (recover_of s (memory_with m m.image t) (settings_of g drive) allowance).outcome.state
      (recover_of s (memory_with m m.image t) (settings_of g drive) allowance).memory b out).out ≡ disk b)

-- Demand 3 of a list of calls: each call gets what the last one left, refused and cut ones too, and keeps what it must; and what the
-- list leaves recovers.
unfoldable pub Faithful : Rules → Geometry → List Call → World → Disk → Type 0
Faithful rules g [] w disk = Recovers g w.memory disk
Faithful rules g (call ∷ calls) w disk =
    Kept rules g w disk call
    × Faithful rules g calls (world_of (made rules g w call)) (disk_after call (acceptances (outcomes_of rules g w call)) disk)
