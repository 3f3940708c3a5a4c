-- Each call of a list keeps the volume's standing.
use Prim.Native.Nat.{ℕ, zero, suc, ◌+◌, ◌*◌, ◌-◌, ◌/◌, ◌≤◌, ◌<◌}
use mathlib.Core.Path.{◌≡◌, refl, sym, ◌∙◌, ap, subst}
use mathlib.Core.Logic.{inr, ⊎_elim}
use mathlib.Core.Bool.{Bool, true, false, cond, true≢false}
use mathlib.Core.List.{List, [], ◌∷◌}
use mathlib.Core.Option.{some}
use native.Mathlib.Nat.{not-suc-le-zero}
use native.Mathlib.Omega.{arith}
use lib.ListN.{length, take}
use lib.Dec.{ltb, eqb}
use borrow.Author.Tests.{ltb-true, lt-ltb, eqb-true, eq-eqb}
use Rattle.std.specs.Prelude.{Ok}
use Rattle.geometry.specs.declared.Geometry.{Geometry}
use Rattle.geometry.specs.declared.Drive.{Drive}
use Rattle.state.specs.declared.State.{State}
use Rattle.answer.specs.declared.Refusal.{Refusal}
use Rattle.answer.specs.declared.Refusal.TheVariants.{BlockNumbers, WrongPhase}
use Rattle.answer.specs.Answer.{refusal_number, cost_of}
use Rattle.geometry.specs.Geometry.{within, pieces_for, settings_of, drive_fits}
use Rattle.state.specs.State.{fresh_state, is_running, is_readable}
use Rattle.layout.specs.Bounded.{at, updated, updates, is_zero}
use Rattle.layout.specs.MapSector.{MapSector}
use Rattle.layout.specs.Entry.{blank, is_empty, sector_of, restored}
use Rattle.layout.specs.ParkRecord.{park_record}
use Rattle.volume.specs.Tables.{Tables, Memory, zero_tables, sector_at}
use Rattle.volume.specs.Refusals.{applies, first_of, judged}
use Rattle.volume.specs.Store.{After, applied, performed, refused, after}
use Rattle.volume.specs.Format.{sectors_in, size_checks}
use Rattle.volume.specs.Rules.{Rules}
use Rattle.volume.specs.Commit.{Change, commit_action}
use Rattle.volume.specs.Calls.{view_of, state_fits, commit_checks, commit_of, write_change, drop_change, room_for, write_by, drop_by, entry_readable, read_checks, block_of, read_judged, read_of, park_checks, park_action, park_of}
use Rattle.volume.specs.Recover.{Log, finding_of, image_view, recovery_action, recovered, recover_of}
use Rattle.batches.specs.Batch.{Commit, commit_made, Answered, commits_made, commits_in, batch_checks, batch_by}
use Rattle.history.specs.History.{batch, World, batch_run, made, world_of, accepted, acceptances, Disk, put_blocks, disk_commit, disk_commits, CommitsKept}
use Rattle.laws.proofs.Bounded.{bool?, lt?, eq?, clash, or_r, or_l, updated_here, updated_other}
use Rattle.laws.proofs.Codec.{stored_unsigned, restored_stored, restored_empty}
use Rattle.laws.proofs.Names.{block, sector_named, within_is}
use Rattle.laws.proofs.Placing.{Choosing}
use Rattle.laws.proofs.Sizes.{Fits, view_same}
use Rattle.laws.proofs.Judged.{refusal_some, verdict?, cleared, not_false, performed_cut, performed_whole}
use Rattle.laws.proofs.CommitPassed.{CommitPassed, commit_passed}
use Rattle.agreement.proofs.Plan.{Given, started}
use Rattle.agreement.proofs.Kept.{write_given, drop_given}
use Rattle.history.proofs.Invariant.{Committed, Settled, ground_moves}
use Rattle.history.proofs.Clearing.{view_parked}
use Rattle.history.proofs.CutCommit.{Settling}
use Rattle.history.proofs.Recovery.{Finds, recovers}
use Rattle.history.proofs.Steps.{refused_not, Standing, running, parked, cut, Sized, sized_with, Step, commit_step}

-- What commits leave to the next call.
abbrev pub left_by : Answered → World
left_by a = record { state = a.state; memory = a.memory }

-- Where no commit was answered the disk stays.
none_taken : (cs : List Commit) (disk : Disk) → disk_commits cs [] disk ≡ disk
unfolding disk_commits
none_taken [] disk = refl
none_taken (c ∷ cs) disk = refl

-- A refused call.
refused_step : (g : Geometry) (s : State) (m : Memory) (r : Refusal) (disk disk' : Disk) → Sized g m
    → Standing g (record { state = s; memory = m }) disk → Step g m (refused r s m) disk disk'
refused_step g s m r disk disk' size stands =
    record {
      kept = λ e. clash (accepted (refused r s m)) e (refused_not r s m);
      stands = subst (λ (b : Bool). Standing g (record { state = s; memory = m }) (cond b disk' disk)) (sym (refused_not r s m)) stands;
      sized = size;
    }

module _ (rules : Rules) (law : Choosing rules) (g : Geometry) (fit : Fits g) where
  -- Write and drop, of a volume that stands in any way.
  module _ (s : State) (m : Memory) (size : Sized g m) (disk : Disk) (stands : Standing g (record { state = s; memory = m }) disk)
      (head : ℕ) (change : Change) (values : ℕ → List ℕ) (bytes_fit has_room : Bool)
      (given : (drive : Drive) (tail number : ℕ) → s ≡ fresh_state g drive tail number
      → Settled g m.image m.tables tail number disk → m.image 0 ≡ blank
      → CommitPassed rules (fresh_state g drive tail number) m head change.blocks bytes_fit has_room
      → (u : Given rules (fresh_state g drive tail number) m.tables m.image head change) × Settling (started law u) disk values) where
    abbrev changed : Disk
    changed = updates disk (at change.blocks) values (length change.blocks)

    passed : (allowance : ℕ) → judged (commit_checks rules s m head change.blocks bytes_fit has_room) ≡ Ok tt
        → Standing g (record { state = s; memory = m }) disk
        → Step g m (performed allowance (commit_action rules s m.tables (view_of s.geometry m.image) head change) m) disk changed
    passed allowance e (running drive tail number q settled unparked) =
        let c = commit_passed rules s m head change.blocks bytes_fit has_room e in
        let u = given drive tail number q settled unparked (subst (λ (x : State). CommitPassed rules x m head change.blocks bytes_fit has_room) q c) in
        subst (λ (x : State). Step g m (performed allowance (commit_action rules x m.tables (view_of x.geometry m.image) head change) m) disk changed)
        (sym q) (commit_step rules law g fit m size drive tail number disk head change values u.0 u.1 allowance)
    passed allowance e (parked drive tail number q settled) =
        let c = commit_passed rules s m head change.blocks bytes_fit has_room e in
        absurd (true≢false (sym c.phase ∙ ap (λ (x : State). is_running x.phase) q))
    passed allowance e (cut q t tail number committed) =
        let c = commit_passed rules s m head change.blocks bytes_fit has_room e in
        absurd (true≢false (sym c.phase ∙ ap is_running q))

    commit_stands : (allowance : ℕ) → Step g m (commit_of rules s m head change bytes_fit has_room allowance) disk changed
    unfolding commit_of
    commit_stands allowance =
        ⊎_elim (λ (e : judged (commit_checks rules s m head change.blocks bytes_fit has_room) ≡ Ok tt).
        rw e (passed allowance e stands))
        (λ v. rw v.1 (refused_step g s m v.0 disk changed size stands))
        (verdict? (judged (commit_checks rules s m head change.blocks bytes_fit has_room)))

  module _ (s : State) (m : Memory) (size : Sized g m) (disk : Disk) (stands : Standing g (record { state = s; memory = m }) disk) where
    pub write_stands : (head : ℕ) (blocks bytes : List ℕ) (allowance : ℕ)
        → Step g m (write_by rules s m head blocks bytes allowance) disk (put_blocks disk blocks (sector_at bytes))
    unfolding write_by put_blocks write_change
    write_stands head blocks bytes allowance =
        commit_stands s m size disk stands head (write_change blocks bytes) (sector_at bytes) (eqb (length bytes) (512 * length blocks)) (room_for s m blocks)
        (λ drive tail number q settled unparked c. (
          write_given rules (fresh_state g drive tail number) m head blocks (eqb (length bytes) (512 * length blocks)) (room_for s m blocks)
              settled.committed.ground.agreed.words c bytes (subst (λ (x : State). room_for x m blocks ≡ true) q c.room),
          record {
            settled = settled;
            unparked = unparked;
            unsigned = λ i h. stored_unsigned g (sector_at bytes i);
            back = λ i k h low high. restored_stored (sector_at bytes i) k low high;
            emptied = λ i h b. absurd (omega arith);
          },
        ))
        allowance

    -- A drop, whatever is said of bytes that it is lent.
    drop_stands_lent : (head : ℕ) (blocks : List ℕ) (bytes_fit : Bool) (allowance : ℕ)
        → Step g m (commit_of rules s m head (drop_change blocks) bytes_fit true allowance) disk (put_blocks disk blocks (λ _. blank))
    unfolding put_blocks drop_change
    drop_stands_lent head blocks bytes_fit allowance =
        commit_stands s m size disk stands head (drop_change blocks) (λ _. blank) bytes_fit true
        (λ drive tail number q settled unparked c. (
          drop_given rules (fresh_state g drive tail number) m head blocks bytes_fit true settled.committed.ground.agreed.words c,
          record {
            settled = settled;
            unparked = unparked;
            unsigned = λ i h. absurd (not-suc-le-zero h);
            back = λ i k h low high. absurd (not-suc-le-zero h);
            emptied = λ i h b. refl;
          },
        ))
        allowance

    pub drop_stands : (head : ℕ) (blocks : List ℕ) (allowance : ℕ)
        → Step g m (drop_by rules s m head blocks allowance) disk (put_blocks disk blocks (λ _. blank))
    unfolding drop_by
    drop_stands head blocks allowance = drop_stands_lent head blocks true allowance

    -- A commit of a batch.
    pub one_stands : (c : Commit) (allowance : ℕ) → Step g m (commit_made rules s m c allowance) disk (disk_commit c disk)
    unfolding commit_made disk_commit
    one_stands c allowance =
        ⊎_elim (λ (e : eqb c.kind 0 ≡ true). rw e (write_stands c.head c.blocks c.bytes allowance))
        (λ (e : eqb c.kind 0 ≡ false).
        ⊎_elim (λ (f : eqb c.kind 1 ≡ true). rw (e, f) (drop_stands_lent c.head c.blocks (eqb (length c.bytes) 0) allowance))
        (λ (f : eqb c.kind 1 ≡ false). rw (e, f) (refused_step g s m BlockNumbers disk (put_blocks disk c.blocks (λ _. blank)) size stands))
        (bool? (eqb c.kind 1)))
        (bool? (eqb c.kind 0))

  -- Commits one after the other: what each keeps, how the volume then stands, and the lengths.
  pub record CommitsStand (s : State) (m : Memory) (cs : List Commit) (allowance : ℕ) (disk : Disk) : Type 0 where
    pub kept : CommitsKept rules g s m cs allowance
    pub stands : Standing g (left_by (commits_made rules s m cs allowance)) (disk_commits cs (acceptances (commits_made rules s m cs allowance).outcomes) disk)
    pub sized : Sized g (commits_made rules s m cs allowance).memory

  pub commits_stand : (cs : List Commit) (s : State) (m : Memory) (allowance : ℕ) (disk : Disk) → Sized g m
      → Standing g (record { state = s; memory = m }) disk → CommitsStand s m cs allowance disk
  unfolding commits_made CommitsKept disk_commits acceptances
  commits_stand [] s m allowance disk size stands = record { kept = tt; stands = stands; sized = size }
  commits_stand (c ∷ cs) s m allowance disk size stands =
      let step = one_stands s m size disk stands c allowance in
      let r = commit_made rules s m c allowance in
      ⊎_elim (λ (e : accepted r ≡ true).
      let on = subst (λ (b : Bool). Standing g (world_of r) (cond b (disk_commit c disk) disk)) e step.stands in
      let more = commits_stand cs r.outcome.state r.memory (allowance - (cost_of r.outcome.answer).stores) (disk_commit c disk) step.sized on in
      record {
        kept = λ z. (step.kept e, more.kept);
        stands = rw e more.stands;
        sized = rw e more.sized;
      })
      (λ (e : accepted r ≡ false).
      let on = subst (λ (b : Bool). Standing g (world_of r) (cond b (disk_commit c disk) disk)) e step.stands in
      record {
        kept = λ z. absurd (true≢false (sym z ∙ e));
        stands = rw (e, none_taken cs disk) on;
        sized = rw e step.sized;
      })
      (bool? (accepted r))

  -- A batch.
  pub record BatchStands (w : World) (words blocks bytes : List ℕ) (allowance : ℕ) (answers : List ℕ) (disk : Disk) : Type 0 where
    pub kept : accepted (made rules g w (batch words blocks bytes allowance answers)) ≡ true
        → CommitsKept rules g w.state w.memory (commits_in words blocks bytes) allowance
    pub stands : Standing g (world_of (made rules g w (batch words blocks bytes allowance answers)))
        (disk_commits (commits_in words blocks bytes) (acceptances (batch_run rules w words blocks bytes allowance answers).outcomes) disk)
    pub sized : Sized g (made rules g w (batch words blocks bytes allowance answers)).memory

  pub batch_stands : (w : World) (words blocks bytes : List ℕ) (allowance : ℕ) (answers : List ℕ) (disk : Disk) → Sized g w.memory → Standing g w disk
      → BatchStands w words blocks bytes allowance answers disk
  unfolding made batch_by batch_run acceptances
  batch_stands w words blocks bytes allowance answers disk size stands =
      let v = judged (batch_checks w.state w.memory words (length blocks) (length bytes) (length answers)) in
      let cs = commits_in words blocks bytes in
      ⊎_elim (λ (e : v ≡ Ok tt).
      let u = commits_stand cs w.state w.memory allowance disk size stands in
      record { kept = λ z. u.kept; stands = rw e u.stands; sized = rw e u.sized })
      (λ x.
      record {
        kept = λ z. clash (is_zero (refusal_number x.0)) (rw x.1 at z) (refusal_some x.0);
        stands = rw (x.1, none_taken cs disk) stands;
        sized = rw x.1 size;
      })
      (verdict? v)

-- A park record over a blank sector 0.
module _ (g : Geometry) (fit : Fits g) (image : ℕ → List ℕ) (t : Tables) (tail number : ℕ) (disk : Disk)
    (settled : Settled g image t tail number disk) where
  abbrev park_image : ℕ → List ℕ
  park_image = updated image 0 (park_record (record { number = number; tail = tail }))

  was : (k : ℕ) (a : MapSector) → image_view g park_image k ≡ some a → image_view g image k ≡ some a
  was k a e =
      ⊎_elim (λ (z : k ≡ 0).
      absurd (view_parked g park_image 0 (record { number = number; tail = tail })
      (updated_here image 0 (park_record (record { number = number; tail = tail }))) a (subst (λ (x : ℕ). image_view g park_image x ≡ some a) z e)))
      (λ (z : k ≡ 0 → ⊥).
      view_same g image park_image k (sym (updated_other image 0 k (park_record (record { number = number; tail = tail })) z)) ∙ e)
      (eq? k 0)

  parked_settles : Settled g park_image t tail number disk
  parked_settles =
      let c = settled.committed in
      let above : (k : ℕ) (a : MapSector) → image_view g park_image k ≡ some a → a.number ≤ number = λ k a e. settled.none_above k a (was k a e) in
      record {
        committed = record {
          ground = ground_moves park_image fit
              (λ x h.
              updated_other image 0 (sector_named g.l t.entry t.place x) (park_record (record { number = number; tail = tail }))
              (λ (z : sector_named g.l t.entry t.place x ≡ 0). let low = c.ground.agreed.sound.low x h in omega arith))
              c.ground;
          apart = λ j k a b e f. c.apart j k a b (was j a e) (was k b f);
          latest = λ k a e. c.latest k a (was k a e);
          unclosed = λ k a e. c.unclosed k a (was k a e);
          park = inr (updated_here image 0 (park_record (record { number = number; tail = tail })), above);
        };
        none_above = above;
      }

-- How a world stands after a call that changes no block.
pub record Stays (g : Geometry) (r : After) (disk : Disk) : Type 0 where
  pub stands : Standing g (world_of r) disk
  pub sized : Sized g r.memory

refused_stays : (g : Geometry) (s : State) (m : Memory) (r : Refusal) (disk : Disk) → Sized g m → Standing g (record { state = s; memory = m }) disk
    → Stays g (refused r s m) disk
refused_stays g s m r disk size stands = record { stands = stands; sized = size }

module _ (g : Geometry) (fit : Fits g) (s : State) (m : Memory) (size : Sized g m) (disk : Disk)
    (stands : Standing g (record { state = s; memory = m }) disk) where
  park_running : (judged (park_checks s m) ≡ Ok tt) → is_running s.phase ≡ true
  unfolding park_checks applies
  park_running e = not_false (is_running s.phase) (cleared WrongPhase _ e)

  park_performed : (drive : Drive) (tail number allowance : ℕ) → Settled g m.image m.tables tail number disk
      → Stays g (performed allowance (park_action (fresh_state g drive tail number) m) m) disk
  unfolding park_action applied
  park_performed drive tail number zero settled =
      subst (λ (r : After). Stays g r disk) (sym (performed_cut 0 (park_action (fresh_state g drive tail number) m) m (omega arith)))
      (record { stands = cut refl m.tables tail number settled.committed; sized = sized_with g m m.image m.tables size })
  park_performed drive tail number (suc allowance) settled =
      subst (λ (r : After). Stays g r disk) (sym (performed_whole (suc allowance) (park_action (fresh_state g drive tail number) m) m (omega arith)))
      (record {
        stands = parked drive tail number refl (parked_settles g fit m.image m.tables tail number disk settled);
        sized = sized_with g m (park_image g fit m.image m.tables tail number disk settled) m.tables size;
      })

  park_passed : (allowance : ℕ) → judged (park_checks s m) ≡ Ok tt → Standing g (record { state = s; memory = m }) disk
      → Stays g (performed allowance (park_action s m) m) disk
  park_passed allowance e (running drive tail number q settled unparked) =
      subst (λ (x : State). Stays g (performed allowance (park_action x m) m) disk) (sym q) (park_performed drive tail number allowance settled)
  park_passed allowance e (parked drive tail number q settled) =
      absurd (true≢false (sym (park_running e) ∙ ap (λ (x : State). is_running x.phase) q))
  park_passed allowance e (cut q t tail number committed) = absurd (true≢false (sym (park_running e) ∙ ap is_running q))

  pub park_stays : (allowance : ℕ) → Stays g (park_of s m allowance) disk
  unfolding park_of
  park_stays allowance =
      ⊎_elim (λ (e : judged (park_checks s m) ≡ Ok tt). rw e (park_passed allowance e stands))
      (λ v. rw v.1 (refused_stays g s m v.0 disk size stands)) (verdict? (judged (park_checks s m)))

  -- Some tables are committed, however the volume stands.
  pub committed_some : Standing g (record { state = s; memory = m }) disk
      → (t : Tables) × (tail : ℕ) × (number : ℕ) × Committed g m.image t tail number disk
  committed_some (running drive tail number q settled unparked) = (m.tables, tail, number, settled.committed)
  committed_some (parked drive tail number q settled) = (m.tables, tail, number, settled.committed)
  committed_some (cut q t tail number committed) = (t, tail, number, committed)

  pub sectors_is : sectors_in m ≡ g.n
  sectors_is = ap (λ (x : ℕ). x / 512) size.image ∙ (let q : 512 * g.n / 512 ≡ g.n = omega arith in q)

  recovery_performed : (drive : Drive) (t : Tables) (tail number allowance : ℕ) → Finds g m.image t tail number disk
      → Stays g (recovered g drive allowance m (finding_of g (image_view g m.image) (m.image 0))) disk
  unfolding recovered
  recovery_performed drive t tail number allowance f =
      let log : Log = record { tables = t; tail = tail; number = number } in
      let action = recovery_action g drive log f.answer f.stores in
      rw f.finding
      (⊎_elim (λ (h : allowance < length f.stores).
      subst (λ (r : After). Stays g r disk) (sym (performed_cut allowance action m h))
      (record {
        stands = cut refl t tail number (f.cut allowance);
        sized = sized_with g m (applied (take allowance f.stores) m.image) zero_tables size;
      }))
      (λ (h : length f.stores ≤ allowance).
      subst (λ (r : After). Stays g r disk) (sym (performed_whole allowance action m h))
      (record { stands = running drive tail number refl f.whole f.blanks; sized = sized_with g m (applied f.stores m.image) t size }))
      (lt? allowance (length f.stores)))

  pub recover_stays : (drive : Drive) (allowance : ℕ) → Stays g (recover_of s m (settings_of g drive) allowance) disk
  unfolding recover_of
  recover_stays drive allowance =
      let c = committed_some stands in
      ⊎_elim (λ (e : judged (size_checks m (settings_of g drive)) ≡ Ok tt).
      rw (e, sectors_is)
      (recovery_performed drive c.0 c.1 c.2 allowance (recovers g m.image c.0 c.1 c.2 disk fit c.3)))
      (λ v. rw v.1 (refused_stays g s m v.0 disk size stands)) (verdict? (judged (size_checks m (settings_of g drive))))

  -- Reads.

  pub read_world : (b : ℕ) (out : List ℕ)
      → world_of (after (read_of s m b out).outcome (read_of s m b out).memory) ≡ record { state = s; memory = m }
  unfolding read_of read_judged
  read_world b out =
      ⊎_elim (λ (e : judged (read_checks s m b (length out)) ≡ Ok tt). rw e refl) (λ v. rw v.1 refl)
      (verdict? (judged (read_checks s m b (length out))))

  -- A block of a volume whose tables are in hand.
  pub block_is : (t : Tables) (tail number : ℕ) → Settled g m.image t tail number disk → m.tables ≡ t
      → (b : ℕ) → b < g.l → block_of m b ≡ disk b
  unfolding block_of
  block_is t tail number settled q b h =
      let ground = settled.committed.ground in
      rw q
      (⊎_elim (λ (z : is_empty (t.entry b) ≡ true).
      ap (λ (x : ℕ). restored x (m.image (sector_of x))) (eqb-true (t.entry b) 0 z) ∙ restored_empty (m.image (sector_of 0)) ∙ sym (ground.empty b h z))
      (λ (z : is_empty (t.entry b) ≡ false). ground.full b h z) (bool? (is_empty (t.entry b))))

  read_passed : (b : ℕ) (out : List ℕ) → judged (read_checks s m b (length out)) ≡ Ok tt → (is_readable s.phase ≡ true) × (b < s.geometry.l)
  unfolding read_checks applies
  read_passed b out e = (
    not_false (is_readable s.phase) (cleared WrongPhase _ e),
    ltb-true b s.geometry.l (not_false (ltb b s.geometry.l) (cleared BlockNumbers _ e)),
  )

  readable_block : (b : ℕ) → (is_readable s.phase ≡ true) × (b < s.geometry.l) → Standing g (record { state = s; memory = m }) disk → block_of m b ≡ disk b
  readable_block b r (running drive tail number q settled unparked) =
      block_is m.tables tail number settled refl b (subst (λ (x : State). b < x.geometry.l) q r.1)
  readable_block b r (parked drive tail number q settled) =
      block_is m.tables tail number settled refl b (subst (λ (x : State). b < x.geometry.l) q r.1)
  readable_block b r (cut q t tail number committed) = absurd (true≢false (sym r.0 ∙ ap is_readable q))

  -- An accepted read gives its block as the plain disk has it.
  pub read_gives_lem : (b : ℕ) (out : List ℕ) → accepted (after (read_of s m b out).outcome (read_of s m b out).memory) ≡ true
      → (read_of s m b out).out ≡ disk b
  unfolding read_of read_judged
  read_gives_lem b out a =
      ⊎_elim (λ (e : judged (read_checks s m b (length out)) ≡ Ok tt).
      rw e (readable_block b (read_passed b out e) stands))
      (λ v. clash (accepted (refused v.0 s m)) (rw v.1 at a) (refused_not v.0 s m))
      (verdict? (judged (read_checks s m b (length out))))

-- A read of a running volume with its lengths right and a drive that holds its sectors is accepted.
module _ (g : Geometry) (fit : Fits g) (m : Memory) (size : Sized g m) (drive : Drive) (holds : drive_fits g.n drive ≡ true)
    (tail number : ℕ) (disk : Disk) (settled : Settled g m.image m.tables tail number disk) where
  entry_readable_lem : (b : ℕ) → b < g.l → entry_readable g.n (m.tables.entry b) ≡ true
  unfolding entry_readable
  entry_readable_lem b h =
      let sound = settled.committed.ground.agreed.sound in
      ⊎_elim (λ (z : is_empty (m.tables.entry b) ≡ true). or_l (is_empty (m.tables.entry b)) _ z)
      (λ (z : is_empty (m.tables.entry b) ≡ false).
      or_r (is_empty (m.tables.entry b)) (within 1 (g.n - 1) (sector_of (m.tables.entry b)))
      (within_is 1 (g.n - 1) (sector_of (m.tables.entry b)) (sound.low (block b) (h, z)) (sound.high (block b) (h, z))))
      (bool? (is_empty (m.tables.entry b)))

  state_fits_lem : state_fits (fresh_state g drive tail number) m ≡ true
  unfolding state_fits
  state_fits_lem =
      rw (eq-eqb m.lengths.image (512 * g.n) size.image, within_is 1 24576 g.l fit.some fit.most)
      (within_is (2 * pieces_for g.l + 2) 65536 g.n fit.least fit.sectors)

  pub read_passes : (b : ℕ) (out : List ℕ) → b < g.l → length out ≡ 512 → judged (read_checks (fresh_state g drive tail number) m b (length out)) ≡ Ok tt
  unfolding read_checks judged first_of applies
  read_passes b out h len = rw (state_fits_lem, holds, size.tables, eq-eqb (length out) 512 len, lt-ltb b g.l h, entry_readable_lem b h) refl
