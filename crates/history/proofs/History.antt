-- Demand 3, in one piece. For every N, L and drive in range, any bytes the image, the tables and the state held before, a format that
-- was accepted, and every list of writes, drops, batches, reads, parks and recoveries with any arguments, drives and allowances, each of which
-- gets image, tables and state as the last one left them, refused and cut ones too:
--   (a) each accepted read in the list gives its block as the plain disk then has it;
--   (b) after each accepted commit the used map marks sector 0 and the live sectors and no other, so all it superseded is free, and
--       from the tail, branch by branch to lower numbers, through live map sectors alone, each live map sector is reached;
--   (c) after the list, whatever tables and state then hold, a recovery of the image with that L, any drive that holds the sectors and
--       enough stores for its list is accepted, and a read of each block below L, given what that recovery left, is accepted and gives
--       the plain disk's block.
-- `Faithful` (specs/History) says this of a list. It is shown for any choice of place that, on every drive that holds the sectors,
-- answers a free sector whenever there is one, any branch limit from 1 to 24 and any greatest number that leaves 256; the base is an
-- instance.
use Prim.Native.Nat.{ℕ, ◌+◌, ◌*◌, ◌/◌, ◌%◌, ◌≤◌, ◌<◌}
use mathlib.Core.Path.{◌≡◌, refl, sym, ◌∙◌, ap, subst}
use mathlib.Core.Logic.{⊎_elim}
use mathlib.Core.Bool.{true, true≢false}
use mathlib.Core.List.{List, [], ◌∷◌}
use native.Mathlib.Omega.{arith}
use lib.ListN.{length}
use borrow.Author.Tests.{eqb-true, eq-eqb}
use Rattle.std.specs.Prelude.{Ok}
use Rattle.geometry.specs.declared.Geometry.{Geometry}
use Rattle.geometry.specs.declared.Drive.{Drive}
use Rattle.geometry.specs.declared.Settings.{Settings}
use Rattle.state.specs.declared.State.{State}
use Rattle.answer.specs.declared.Refusal.TheVariants.{Size, BufferLength}
use Rattle.geometry.specs.Geometry.{pieces_for, settings_of, geometry_fits, drive_fits}
use Rattle.state.specs.State.{fresh_state}
use Rattle.answer.specs.Answer.{stores_alone, number_of}
use Rattle.layout.specs.Bounded.{is_zero}
use Rattle.volume.specs.Tables.{Tables, Memory}
use Rattle.volume.specs.Refusals.{applies, first_of, judged}
use Rattle.volume.specs.Store.{After, applied, performed, refused, memory_with, after}
use Rattle.volume.specs.Format.{sectors_in, volume_in, image_fits, tables_fit, size_checks, format_stores, format_tables, format_action, format_of}
use Rattle.volume.specs.Rules.{Rules, base}
use Rattle.volume.specs.Calls.{read_of, read_judged}
use Rattle.volume.specs.Recover.{Log, recovery_action, recovered, recover_of}
use Rattle.history.specs.History.{Call, write, drop, batch, read, park, recover, World, made, world_of, accepted, outcomes_of, acceptances, Disk, zero_disk, disk_after, Kept, stores_in, recovery_stores, Recovers, Faithful}
use Rattle.laws.proofs.Bounded.{lt?, clash, and_l, and_r}
use Rattle.laws.proofs.Names.{within_is}
use Rattle.laws.proofs.Placing.{Choosing, base_chooses}
use Rattle.laws.proofs.Sizes.{Fits, fits}
use Rattle.history.proofs.Invariant.{Committed}
use Rattle.history.proofs.Fresh.{format_settles, blank_0}
use Rattle.history.proofs.Recovery.{Finds, recovers}
use Rattle.laws.proofs.Judged.{verdict?, cleared, not_false, performed_cut, performed_whole}
use Rattle.history.proofs.Steps.{refused_not, Standing, running, Sized, sized_with}
use Rattle.history.proofs.Calls.{write_stands, drop_stands, batch_stands, park_stays, committed_some, recover_stays, read_world, block_is, read_gives_lem, read_passes}

-- Where the lengths are right and the drive holds the sectors, none of 1, 11 and 2 applies to a recovery.
size_passes : (g : Geometry) (drive : Drive) (m : Memory) → Fits g → drive_fits g.n drive ≡ true → Sized g m
    → judged (size_checks m (settings_of g drive)) ≡ Ok tt
unfolding size_checks image_fits judged first_of applies
size_passes g drive m fit holds size =
    let whole : is_zero (m.lengths.image % 512) ≡ true =
    eq-eqb (m.lengths.image % 512) 0 (ap (λ (x : ℕ). x % 512) size.image ∙ (let q : 512 * g.n % 512 ≡ 0 = omega arith in q)) in
    let at : sectors_in m ≡ g.n = ap (λ (x : ℕ). x / 512) size.image ∙ (let q : 512 * g.n / 512 ≡ g.n = omega arith in q) in
    rw (whole, at, within_is 1 24576 g.l fit.some fit.most, within_is (2 * pieces_for g.l + 2) 65536 g.n fit.least fit.sectors, holds, size.tables) refl

-- (c): what any list leaves recovers.
module _ (g : Geometry) (fit : Fits g) (m : Memory) (size : Sized g m)
    (t0 : Tables) (tail number : ℕ) (disk : Disk) (c : Committed g m.image t0 tail number disk) where
  finds : Finds g m.image t0 tail number disk
  finds = recovers g m.image t0 tail number disk fit c

  abbrev left : Drive → After
  left drive =
      after (record { answer = finds.answer (stores_alone (length finds.stores)); state = fresh_state g drive tail number })
      (memory_with m (applied finds.stores m.image) t0)

  needed : length (recovery_stores g m.image) ≡ length finds.stores
  unfolding stores_in
  needed = ap (λ f. length (stores_in f)) finds.finding

  recovery_is : (drive : Drive) → drive_fits g.n drive ≡ true → (s : State) (t : Tables) (allowance : ℕ)
      → length (recovery_stores g m.image) ≤ allowance
      → recover_of s (memory_with m m.image t) (settings_of g drive) allowance ≡ left drive
  unfolding recover_of recovered
  recovery_is drive holds s t allowance h =
      let log : Log = record { tables = t0; tail = tail; number = number } in
      let at : sectors_in (memory_with m m.image t) ≡ g.n =
      ap (λ (x : ℕ). x / 512) size.image ∙ (let q : 512 * g.n / 512 ≡ g.n = omega arith in q) in
      let e = needed in
      rw (size_passes g drive (memory_with m m.image t) fit holds (sized_with g m m.image t size), at, finds.finding)
      (performed_whole allowance (recovery_action g drive log finds.answer finds.stores) (memory_with m m.image t) (omega arith))

  read_is : (drive : Drive) → drive_fits g.n drive ≡ true → (b : ℕ) (out : List ℕ) → b < g.l → length out ≡ 512
      → (number_of (read_of (left drive).outcome.state (left drive).memory b out).outcome.answer ≡ 0) × ((read_of (left drive).outcome.state (left drive).memory b out).out ≡ disk b)
  unfolding read_of read_judged
  read_is drive holds b out h len =
      let w = finds.whole in
      let z = sized_with g m (applied finds.stores m.image) t0 size in
      let p = read_passes g fit (left drive).memory z drive holds tail number disk w b out h len in
      let stands = running drive tail number refl w finds.blanks in
      rw p (refl, block_is g fit (fresh_state g drive tail number) (left drive).memory z disk stands t0 tail number w refl b h)

  recovers_all : Recovers g m disk
  recovers_all =
      record {
        accepts = λ drive holds s t allowance h. rw (recovery_is drive holds s t allowance h, finds.accepts (stores_alone (length finds.stores))) refl;
        reads = λ drive holds s t allowance h b out i len. rw (recovery_is drive holds s t allowance h) (read_is drive holds b out i len);
      }

module _ (rules : Rules) (law : Choosing rules) (g : Geometry) (fit : Fits g) where
  -- Every list from a volume that stands.
  faithful : (calls : List Call) (w : World) (disk : Disk) → Sized g w.memory → Standing g w disk → Faithful rules g calls w disk
  unfolding Faithful Kept made outcomes_of acceptances disk_after
  faithful [] w disk size stands =
      let c = committed_some g fit w.state w.memory size disk stands stands in
      recovers_all g fit w.memory size c.0 c.1 c.2 disk c.3
  faithful (write head blocks bytes allowance ∷ calls) w disk size stands =
      let step = write_stands rules law g fit w.state w.memory size disk stands head blocks bytes allowance in
      (step.kept, faithful calls _ _ step.sized step.stands)
  faithful (drop head blocks allowance ∷ calls) w disk size stands =
      let step = drop_stands rules law g fit w.state w.memory size disk stands head blocks allowance in
      (step.kept, faithful calls _ _ step.sized step.stands)
  faithful (batch words blocks bytes allowance answers ∷ calls) w disk size stands =
      let step = batch_stands rules law g fit w words blocks bytes allowance answers disk size stands in
      (step.kept, faithful calls _ _ step.sized step.stands)
  faithful (read block out ∷ calls) w disk size stands =
      let same = read_world g fit w.state w.memory size disk stands block out in (
        read_gives_lem g fit w.state w.memory size disk stands block out,
        subst (λ (v : World). Faithful rules g calls v disk) (sym same) (faithful calls w disk size stands),
      )
  faithful (park allowance ∷ calls) w disk size stands =
      let step = park_stays g fit w.state w.memory size disk stands allowance in
      (tt, faithful calls _ _ step.sized step.stands)
  faithful (recover drive allowance ∷ calls) w disk size stands =
      let step = recover_stays g fit w.state w.memory size disk stands drive allowance in
      (tt, faithful calls _ _ step.sized step.stands)

-- An accepted format.
module _ (s : State) (m : Memory) (settings : Settings) (allowance : ℕ) (ok : accepted (format_of s m settings allowance) ≡ true) where
  format_passes : judged (size_checks m settings) ≡ Ok tt
  unfolding format_of
  format_passes =
      ⊎_elim (λ e. e)
      (λ v. clash (accepted (refused v.0 s m)) (rw v.1 at ok) (refused_not v.0 s m))
      (verdict? (judged (size_checks m settings)))

  format_fits : geometry_fits (volume_in m settings) ≡ true
  unfolding size_checks image_fits applies
  format_fits =
      and_r (is_zero (m.lengths.image % 512)) (geometry_fits (volume_in m settings))
      (not_false (image_fits m settings) (cleared Size _ format_passes))

  format_sized : Sized (volume_in m settings) m
  unfolding size_checks image_fits applies
  format_sized =
      let whole = eqb-true (m.lengths.image % 512) 0
      (and_l (is_zero (m.lengths.image % 512)) (geometry_fits (volume_in m settings)) (not_false (image_fits m settings) (cleared Size _ format_passes))) in
      record {
        image = omega arith;
        tables = not_false (tables_fit m (volume_in m settings)) (cleared BufferLength _ format_passes);
      }

  performs : format_of s m settings allowance ≡ performed allowance (format_action (volume_in m settings) settings.drive) m
  unfolding format_of
  performs = rw format_passes refl

  enough : length (format_stores (volume_in m settings)) ≤ allowance
  unfolding format_action
  enough =
      ⊎_elim (λ (h : allowance < length (format_stores (volume_in m settings))).
      absurd (true≢false (sym (rw (performs, performed_cut allowance (format_action (volume_in m settings) settings.drive) m h) at ok))))
      (λ h. h) (lt? allowance (length (format_stores (volume_in m settings))))

  format_world : Standing (volume_in m settings) (world_of (format_of s m settings allowance)) zero_disk × Sized (volume_in m settings) (format_of s m settings allowance).memory
  unfolding format_action
  format_world =
      let fit = fits (volume_in m settings) format_fits in
      rw (performs, performed_whole allowance (format_action (volume_in m settings) settings.drive) m enough) (
        running settings.drive (pieces_for settings.l) (pieces_for settings.l) refl (format_settles (volume_in m settings) fit m.image) (blank_0 (volume_in m settings) fit m.image),
        sized_with (volume_in m settings) m (applied (format_stores (volume_in m settings)) m.image) (format_tables settings.l) format_sized,
      )

-- The theorem.
pub histories : (rules : Rules) → Choosing rules → (s : State) (m : Memory) (settings : Settings) (allowance : ℕ) → accepted (format_of s m settings allowance) ≡ true
    → (calls : List Call) → Faithful rules (volume_in m settings) calls (world_of (format_of s m settings allowance)) zero_disk
histories rules law s m settings allowance ok calls =
    let fit = fits (volume_in m settings) (format_fits s m settings allowance ok) in
    let w = format_world s m settings allowance ok in
    faithful rules law (volume_in m settings) fit calls (world_of (format_of s m settings allowance)) zero_disk w.1 w.0

-- The base: the choice of least delay, 24 branches, and 256 numbers left.
pub base_histories : (s : State) (m : Memory) (settings : Settings) (allowance : ℕ) → accepted (format_of s m settings allowance) ≡ true
    → (calls : List Call) → Faithful base (volume_in m settings) calls (world_of (format_of s m settings allowance)) zero_disk
base_histories = histories base base_chooses
