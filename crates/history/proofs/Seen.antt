-- Demand 3 of what a program sees: outcomes and buffers that meet the promises of the calls are the run of `made`, and so `histories`
-- speaks of them.
use Prim.Native.Nat.{ℕ, zero, suc, ◌*◌, ◌-◌, ◌≤◌, ◌<◌}
use mathlib.Core.Path.{◌≡◌, refl, sym, ◌∙◌, ap, subst}
use mathlib.Core.Logic.{⊎_elim}
use mathlib.Core.Bool.{Bool, true, false}
use mathlib.Core.List.{List, [], ◌∷◌, ◌++◌}
use native.Mathlib.Nat.{not-suc-le-zero}
use native.Mathlib.Omega.{arith}
use lib.ListN.{length, drop as dropped}
use borrow.Author.Tests.{eq-eqb, eqb-true}
use Rattle.std.specs.Prelude.{Ok}
use Rattle.geometry.specs.declared.Geometry.{Geometry}
use Rattle.geometry.specs.declared.Drive.{Drive}
use Rattle.geometry.specs.declared.Settings.{Settings}
use Rattle.geometry.specs.Geometry.{settings_of, drive_fits}
use Rattle.state.specs.declared.State.{State}
use Rattle.state.specs.declared.Outcome.{Outcome}
use Rattle.answer.specs.Answer.{number_of, cost_of}
use Rattle.layout.specs.Bounded.{at, is_zero, list_from}
use Rattle.volume.specs.Tables.{Memory, Lengths, memory, sector_at, tables_of}
use Rattle.volume.specs.Store.{After, after, memory_with}
use Rattle.volume.specs.Format.{volume_in, format_of}
use Rattle.volume.specs.Refusals.{judged}
use Rattle.volume.specs.Rules.{base}
use Rattle.volume.specs.Calls.{ReadAfter, read_of}
use Rattle.volume.specs.Recover.{recover_of}
use Rattle.batches.specs.Batch.{Commit, commit_made, Answered, commits_made, commits_in, batch_checks, answer_of, answers_with, BatchAfter, batch_by, batch_of}
use Rattle.history.specs.History.{Call, write, drop, batch, read, park, recover, World, whole_outcome, batch_run, made, world_of, accepted, outcomes_of, acceptances, Disk, zero_disk, disk_after, Marked, CommitKept, CommitsKept, Kept, recovery_stores, Recovers, Faithful}
use Rattle.history.specs.Seen.{Buffers, held_in, Seen, IsAccepted, FormatMeets, Meets, Run, seen_acceptances, KeptSeen, RecoversSeen, FaithfulSeen}
use Rattle.laws.proofs.Bounded.{bool?, lt?, clash}
use Rattle.laws.proofs.Judged.{verdict?}
use Rattle.history.proofs.History.{base_histories}

abbrev world_seen : State → Buffers → World
world_seen s b = record { state = s; memory = held_in b }

abbrev seen_after : Seen → After
seen_after r = after r.outcome (held_in r.buffers)

-- A call that meets its promise is the call of the definitions.
made_is : (g : Geometry) (s : State) (b : Buffers) (call : Call) (r : Seen) → Meets g s b call r
    → made base g (world_seen s b) call ≡ seen_after r
unfolding Meets made
made_is g s b (write head blocks bytes allowance) r e = sym e
made_is g s b (drop head blocks allowance) r e = sym e
made_is g s b (batch words blocks bytes allowance answers) r e =
    ap (λ (a : BatchAfter). after (whole_outcome a.outcome) a.memory) (sym e.1) ∙ ap (λ (o : Outcome). after o (held_in r.buffers)) (sym e.2)
made_is g s b (read block out) r e =
    ap (λ (a : ReadAfter). after a.outcome a.memory) (sym e.0) ∙ ap (λ (c : Buffers). after r.outcome (held_in c)) (sym e.1)
made_is g s b (park allowance) r e = sym e
made_is g s b (recover drive allowance) r e = sym e

-- The run of a batch, by what it answers as a whole: what is lent for the answers holds them.
module _ (w : World) (words blocks bytes : List ℕ) (allowance : ℕ) (answers : List ℕ) where
  abbrev ran : Answered
  ran = batch_run base w words blocks bytes allowance answers

  batch_ran : ((batch_of w.state w.memory words blocks bytes allowance answers).answers ≡ answers_with ran.outcomes answers)
      × ((batch_of w.state w.memory words blocks bytes allowance answers).outcome.answered ≡ length ran.outcomes)
      × ((batch_of w.state w.memory words blocks bytes allowance answers).memory ≡ ran.memory)
  unfolding batch_by batch_run answers_with
  batch_ran =
      ⊎_elim (λ e. rw e (refl, refl, refl)) (λ x. rw x.1 (refl, refl, refl))
      (verdict? (judged (batch_checks w.state w.memory words (length blocks) (length bytes) (length answers))))

-- The first of the words that answer a commit says whether it was accepted.
abbrev answered_at : List ℕ → ℕ → Bool
answered_at answers i = is_zero (at answers (5 * i))

next_answer : (o : Outcome) (rest : List ℕ) (i : ℕ) → answered_at (answer_of o ++ rest) (suc i) ≡ answered_at rest i
next_answer o rest i = let e : 5 * suc i ≡ suc (suc (suc (suc (suc (5 * i))))) = omega arith in rw e refl

shifted : (f h : ℕ → Bool) → ((i : ℕ) → f (suc i) ≡ h i) → (from n : ℕ) → list_from f (suc from) n ≡ list_from h from n
unfolding list_from
shifted f h e from zero = refl
shifted f h e from (suc n) = rw (e from, shifted f h e (suc from) n) refl

acceptances_seen : (os : List Outcome) (answers : List ℕ) → list_from (answered_at (answers_with os answers)) 0 (length os) ≡ acceptances os
unfolding list_from acceptances answers_with
acceptances_seen [] answers = refl
acceptances_seen (o ∷ os) answers =
    ap (λ (bs : List Bool). is_zero (number_of o.answer) ∷ bs)
    (shifted (answered_at (answer_of o ++ answers_with os (dropped 5 answers))) (answered_at (answers_with os (dropped 5 answers))) (next_answer o (answers_with os (dropped 5 answers))) 0 (length os)
    ∙ acceptances_seen os (dropped 5 answers))

-- So they are those of the run.
oks_are : (g : Geometry) (s : State) (b : Buffers) (call : Call) (r : Seen) → Meets g s b call r
    → acceptances (outcomes_of base g (world_seen s b) call) ≡ seen_acceptances call r
unfolding Meets outcomes_of acceptances seen_acceptances
oks_are g s b (write head blocks bytes allowance) r e = ap (λ (a : After). accepted a ∷ []) (made_is g s b (write head blocks bytes allowance) r e)
oks_are g s b (drop head blocks allowance) r e = ap (λ (a : After). accepted a ∷ []) (made_is g s b (drop head blocks allowance) r e)
oks_are g s b (batch words blocks bytes allowance answers) r e =
    let x = batch_ran (world_seen s b) words blocks bytes allowance answers in
    let outs = (ran (world_seen s b) words blocks bytes allowance answers).outcomes in
    let own : r.out ≡ answers_with outs answers = ap (λ (a : BatchAfter). a.answers) e.1 ∙ x.0 in
    let count : r.answered ≡ length outs = e.3 ∙ ap (λ (a : BatchAfter). a.outcome.answered) e.1 ∙ x.1 in
    sym (ap (λ (n : ℕ). list_from (answered_at r.out) 0 n) count ∙ ap (λ (xs : List ℕ). list_from (answered_at xs) 0 (length outs)) own ∙ acceptances_seen outs answers)
oks_are g s b (read block out) r e = ap (λ (a : After). accepted a ∷ []) (made_is g s b (read block out) r e)
oks_are g s b (park allowance) r e = ap (λ (a : After). accepted a ∷ []) (made_is g s b (park allowance) r e)
oks_are g s b (recover drive allowance) r e = ap (λ (a : After). accepted a ∷ []) (made_is g s b (recover drive allowance) r e)

-- After a run whose last answered commit was accepted, what that commit keeps.
last_accepted : (cs : List Commit) (g : Geometry) (s : State) (m : Memory) (allowance : ℕ) (answers : List ℕ) → CommitsKept base g s m cs allowance
    → 0 < length (commits_made base s m cs allowance).outcomes
    → answered_at (answers_with (commits_made base s m cs allowance).outcomes answers) (length (commits_made base s m cs allowance).outcomes - 1) ≡ true
    → Marked g (commits_made base s m cs allowance).memory
unfolding commits_made CommitsKept answers_with
last_accepted [] g s m allowance answers k some ok = absurd (not-suc-le-zero some)
last_accepted (c ∷ cs) g s m allowance answers k some ok =
    let r = commit_made base s m c allowance in
    let left = allowance - (cost_of r.outcome.answer).stores in
    let later = commits_made base r.outcome.state r.memory cs left in
    ⊎_elim (λ (e : accepted r ≡ true).
    let ok' = rw e at ok in
    rw e
    (⊎_elim (λ (z : 0 < length later.outcomes).
    let n : length (r.outcome ∷ later.outcomes) - 1 ≡ suc (length later.outcomes - 1) = omega arith in
    last_accepted cs g r.outcome.state r.memory left (dropped 5 answers) (k e).1 z
    (sym (next_answer r.outcome (answers_with later.outcomes (dropped 5 answers)) (length later.outcomes - 1)) ∙ rw n at ok'))
    (λ (z : length later.outcomes ≤ 0). subst (Marked g) (none_after cs r.outcome.state r.memory left z) (k e).0.marked)
    (lt? 0 (length later.outcomes))))
    (λ (e : accepted r ≡ false). clash (accepted r) (rw e at ok) e)
    (bool? (accepted r))
  where
    none_after : (cs : List Commit) (s : State) (m : Memory) (allowance : ℕ) → length (commits_made base s m cs allowance).outcomes ≤ 0
        → m ≡ (commits_made base s m cs allowance).memory
    none_after [] s m allowance h = refl
    none_after (c ∷ cs) s m allowance h = absurd (not-suc-le-zero h)

seen_ok : (r : Seen) (a : After) → a ≡ seen_after r → IsAccepted r → accepted a ≡ true
seen_ok r a e ok = ap accepted e ∙ eq-eqb (number_of r.outcome.answer) 0 ok

read_is : (g : Geometry) (s : State) (b : Buffers) (block : ℕ) (out : List ℕ) (r : Seen) → Meets g s b (read block out) r
    → record { outcome = r.outcome; memory = held_in b; out = r.out } ≡ read_of s (held_in b) block out
unfolding Meets
read_is g s b block out r e = e.0

batch_marked : (g : Geometry) (w : World) (words blocks bytes : List ℕ) (allowance : ℕ) (answers : List ℕ)
    → CommitsKept base g w.state w.memory (commits_in words blocks bytes) allowance
    → (out : List ℕ) (n : ℕ) → out ≡ answers_with (ran w words blocks bytes allowance answers).outcomes answers → n ≡ length (ran w words blocks bytes allowance answers).outcomes
    → 0 < n → at out (5 * (n - 1)) ≡ 0 → (m : Memory) → m ≡ (ran w words blocks bytes allowance answers).memory → Marked g m
unfolding batch_run
batch_marked g w words blocks bytes allowance answers k out n own count some last m is =
    let v = judged (batch_checks w.state w.memory words (length blocks) (length bytes) (length answers)) in
    ⊎_elim (λ (e : v ≡ Ok tt).
    let count' = rw e at count in
    let own' = rw e at own in
    subst (Marked g) (sym (rw e at is))
    (last_accepted (commits_in words blocks bytes) g w.state w.memory allowance answers k (rw count' at some)
    (eq-eqb _ 0 (rw (own', count') at last))))
    (λ x. let none = rw x.1 at count in absurd (omega arith))
    (verdict? v)

-- What it keeps.
kept_seen : (g : Geometry) (s : State) (b : Buffers) (disk : Disk) (call : Call) (r : Seen) → Meets g s b call r
    → Kept base g (world_seen s b) disk call → KeptSeen g b disk call r
unfolding Kept KeptSeen Meets
kept_seen g s b disk (write head blocks bytes allowance) r e k =
    let is = made_is g s b (write head blocks bytes allowance) r e in
    λ ok. subst (λ (a : After). CommitKept g (held_in b) a.memory) is (k (seen_ok r _ is ok))
kept_seen g s b disk (drop head blocks allowance) r e k =
    let is = made_is g s b (drop head blocks allowance) r e in
    λ ok. subst (λ (a : After). CommitKept g (held_in b) a.memory) is (k (seen_ok r _ is ok))
kept_seen g s b disk (batch words blocks bytes allowance answers) r e k =
    let w = world_seen s b in
    let is = made_is g s b (batch words blocks bytes allowance answers) r e in
    let x = batch_ran w words blocks bytes allowance answers in
    let own : r.out ≡ answers_with (ran w words blocks bytes allowance answers).outcomes answers = ap (λ (a : BatchAfter). a.answers) e.1 ∙ x.0 in
    let count : r.answered ≡ length (ran w words blocks bytes allowance answers).outcomes = e.3 ∙ ap (λ (a : BatchAfter). a.outcome.answered) e.1 ∙ x.1 in
    λ ok some last.
    batch_marked g w words blocks bytes allowance answers (k (seen_ok r _ is ok)) r.out r.answered own count some last (held_in r.buffers)
    (ap (λ (a : BatchAfter). a.memory) e.1 ∙ x.2)
kept_seen g s b disk (read block out) r e k =
    let is = made_is g s b (read block out) r e in
    λ ok. ap (λ (a : ReadAfter). a.out) (read_is g s b block out r e) ∙ k (seen_ok r _ is ok)
kept_seen g s b disk (park allowance) r e k = tt
kept_seen g s b disk (recover drive allowance) r e k = tt

-- What a recovery of what is left gives, and a read after it.
module _ (g : Geometry) (b : Buffers) (disk : Disk) (left : Recovers g (held_in b) disk) where
  -- Other tables of the same lengths beside the same image.
  lent_again : (other : Buffers) → other.image ≡ b.image → (held_in other).lengths ≡ (held_in b).lengths
      → held_in other ≡ memory_with (held_in b) (held_in b).image (tables_of other.map other.places other.numbers other.used)
  unfolding memory
  lent_again other e h =
      ap (λ (l : Lengths). record { lengths = l; image = sector_at other.image; tables = tables_of other.map other.places other.numbers other.used }) h
      ∙ ap (λ (im : List ℕ). record { lengths = (held_in b).lengths; image = sector_at im; tables = tables_of other.map other.places other.numbers other.used }) e

  module _ (drive : Drive) (holds : drive_fits g.n drive ≡ true) (s : State) (other : Buffers) (allowance : ℕ) (r : Seen)
      (e : other.image ≡ b.image) (h : (held_in other).lengths ≡ (held_in b).lengths)
      (enough : length (recovery_stores g (sector_at b.image)) ≤ allowance) (promised : Meets g s other (recover drive allowance) r) where
    recovery : recover_of s (memory_with (held_in b) (held_in b).image (tables_of other.map other.places other.numbers other.used)) (settings_of g drive) allowance ≡ seen_after r
    unfolding Meets
    recovery = ap (λ (m : Memory). recover_of s m (settings_of g drive) allowance) (sym (lent_again other e h)) ∙ sym promised

    recovery_accepts : IsAccepted r
    unfolding memory
    recovery_accepts =
        eqb-true (number_of r.outcome.answer) 0
        (ap accepted (sym recovery) ∙ left.accepts drive holds s (tables_of other.map other.places other.numbers other.used) allowance enough)

    read_after : (block : ℕ) (out : List ℕ) (q : Seen) → block < g.l → length out ≡ 512
        → Meets g r.outcome.state r.buffers (read block out) q → IsAccepted q × (q.out ≡ disk block)
    unfolding memory
    read_after block out q below long met =
        let given = left.reads drive holds s (tables_of other.map other.places other.numbers other.used) allowance enough block out below long in
        let is = read_is g r.outcome.state r.buffers block out q met in
        let seen = subst (λ (a : After). (number_of (read_of a.outcome.state a.memory block out).outcome.answer ≡ 0)
        × ((read_of a.outcome.state a.memory block out).out ≡ disk block)) recovery given in (
          ap (λ (a : ReadAfter). number_of a.outcome.answer) is ∙ seen.0,
          ap (λ (a : ReadAfter). a.out) is ∙ seen.1,
        )

  recovers_seen : RecoversSeen g b disk
  recovers_seen =
      record {
        recovered = λ drive holds s other allowance r e h enough met.
            (recovery_accepts drive holds s other allowance r e h enough met, read_after drive holds s other allowance r e h enough met);
      }

-- Every list.
seen_faithful : (g : Geometry) (calls : List Call) (rs : List Seen) (s : State) (b : Buffers) (disk : Disk) → Run g s b calls rs
    → Faithful base g calls (world_seen s b) disk → FaithfulSeen g calls rs b disk
unfolding Run Faithful FaithfulSeen
seen_faithful g [] [] s b disk run f = recovers_seen g b disk f
seen_faithful g [] (r ∷ rs) s b disk run f = run
seen_faithful g (call ∷ calls) [] s b disk run f = run
seen_faithful g (call ∷ calls) (r ∷ rs) s b disk run f =
    let is = made_is g s b call r run.0 in (
      kept_seen g s b disk call r run.0 f.0,
      seen_faithful g calls rs r.outcome.state r.buffers _ run.1
          (subst (λ (a : After). Faithful base g calls (world_of a) (disk_after call (seen_acceptances call r) disk)) is
          (subst (λ (oks : List Bool). Faithful base g calls (world_of (made base g (world_seen s b) call)) (disk_after call oks disk)) (oks_are g s b call r run.0) f.1)),
    )

-- The theorem, of whatever meets the promises: from a format that was accepted, any list of calls.
pub seen_histories : (s : State) (b : Buffers) (settings : Settings) (allowance : ℕ) (r : Seen) → FormatMeets s b settings allowance r → IsAccepted r
    → (calls : List Call) (rs : List Seen) → Run (volume_in (held_in b) settings) r.outcome.state r.buffers calls rs
    → FaithfulSeen (volume_in (held_in b) settings) calls rs r.buffers zero_disk
seen_histories s b settings allowance r met ok calls rs run =
    let is : format_of s (held_in b) settings allowance ≡ seen_after r = sym met in
    seen_faithful (volume_in (held_in b) settings) calls rs r.outcome.state r.buffers zero_disk run
    (subst (λ (a : After). Faithful base (volume_in (held_in b) settings) calls (world_of a) zero_disk) is
    (base_histories s (held_in b) settings allowance (seen_ok r (format_of s (held_in b) settings allowance) is ok) calls))
