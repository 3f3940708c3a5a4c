-- Each call keeps the volume's standing: running and settled, parked and settled, or cut and committed.
use Prim.Native.Nat.{ℕ, ◌*◌, ◌≤◌, ◌<◌}
use mathlib.Core.Path.{◌≡◌, refl, sym, ◌∙◌, ap, subst}
use mathlib.Core.Logic.{⊎_elim}
use mathlib.Core.Bool.{true, false, cond, true≢false}
use mathlib.Core.List.{List}
use native.Mathlib.Omega.{arith}
use lib.ListN.{length, take}
use lib.Dec.{eqb}
use borrow.Author.Tests.{ne_eqb}
use Rattle.geometry.specs.declared.Geometry.{Geometry}
use Rattle.geometry.specs.declared.Drive.{Drive}
use Rattle.state.specs.declared.State.{State}
use Rattle.state.specs.declared.Phase.TheVariants.{Cut}
use Rattle.answer.specs.declared.Refusal.{Refusal}
use Rattle.geometry.specs.Geometry.{pieces_for}
use Rattle.state.specs.State.{fresh_state, parked_state}
use Rattle.layout.specs.Bounded.{at, elem, updates}
use Rattle.layout.specs.Entry.{blank}
use Rattle.volume.specs.Tables.{Tables, Memory, named_by, used_by}
use Rattle.volume.specs.Store.{After, Action, applied, performed, refused, memory_with}
use Rattle.volume.specs.Format.{tables_fit}
use Rattle.volume.specs.Rules.{Rules}
use Rattle.volume.specs.Commit.{Change, plan_action, commit_action}
use Rattle.volume.specs.Calls.{view_of}
use Rattle.volume.specs.Recover.{image_view, newest_closing}
use Rattle.history.specs.History.{World, world_of, accepted, Disk, CommitKept, live_sectors, live_place, Reaches, itself, through}
use Rattle.laws.proofs.Bounded.{lt?, or_none}
use Rattle.laws.proofs.Names.{elem_named}
use Rattle.laws.proofs.Placing.{Choosing}
use Rattle.laws.proofs.Sizes.{Fits}
use Rattle.laws.proofs.Judged.{refusal_some, performed_cut, performed_whole}
use Rattle.agreement.proofs.Plan.{Given, Start, started, plan}
use Rattle.agreement.proofs.Members.{tables'}
use Rattle.agreement.proofs.Stored.{image'}
use Rattle.agreement.proofs.Sound.{tail', number'}
use Rattle.history.proofs.Invariant.{Committed, Settled, reaches_below}
use Rattle.history.proofs.Scan.{finds_tail, finds_number, finds_place, scans_log}
use Rattle.history.proofs.CutCommit.{Settling, cut_commit}
use Rattle.history.proofs.WholeCommit.{disk', whole_commit, whole_blank}

-- A refused call leaves the world as it was, and is not accepted.
pub refused_not : (r : Refusal) (s : State) (m : Memory) → accepted (refused r s m) ≡ false
refused_not r s m = refusal_some r

-- How a volume stands, on whatever drive its format or its last recovery was given.
pub data Standing (g : Geometry) (w : World) (disk : Disk) : Type 0 where
  running : (drive : Drive) (tail number : ℕ) → w.state ≡ fresh_state g drive tail number
      → Settled g w.memory.image w.memory.tables tail number disk → w.memory.image 0 ≡ blank → Standing g w disk
  parked : (drive : Drive) (tail number : ℕ) → w.state ≡ parked_state (fresh_state g drive tail number)
      → Settled g w.memory.image w.memory.tables tail number disk → Standing g w disk
  cut : w.state.phase ≡ Cut → (t : Tables) (tail number : ℕ) → Committed g w.memory.image t tail number disk → Standing g w disk

-- The lengths of what is lent stay right.
pub record Sized (g : Geometry) (m : Memory) : Type 0 where
  pub image : m.lengths.image ≡ 512 * g.n
  pub tables : tables_fit m g ≡ true

pub sized_with : (g : Geometry) (m : Memory) (image : ℕ → List ℕ) (t : Tables) → Sized g m → Sized g (memory_with m image t)
unfolding tables_fit
sized_with g m image t z = record { image = z.image; tables = z.tables }

-- What is live in a settled image.
module _ (g : Geometry) (image : ℕ → List ℕ) (t : Tables) (tail number : ℕ) (disk : Disk) (fit : Fits g)
    (c : Committed g image t tail number disk) where
  pub live_is : live_sectors g (image_view g image) ≡ named_by g.l t.entry t.place
  live_is =
      rw (finds_number g image t tail number disk fit c, scans_log g image t tail number disk fit c) refl

  place_same : (p : ℕ) → p < pieces_for g.l → live_place g.n (image_view g image) p ≡ t.place p
  place_same p h = rw (finds_number g image t tail number disk fit c) (finds_place g image t tail number disk fit c p h)

  pub live_reached : (p : ℕ) → Reaches (image_view g image) t.place (pieces_for g.l) tail p
      → Reaches (image_view g image) (live_place g.n (image_view g image)) (pieces_for g.l) (newest_closing g.n (image_view g image)) p
  live_reached p (itself h e v) =
      let newest = finds_tail g image t tail number disk fit c in
      itself h (place_same p h ∙ e ∙ sym newest) (ap (image_view g image) newest ∙ v)
  live_reached p (through {q = q} r e h f v lt) =
      through (live_reached q r) (ap (image_view g image) (place_same q (reaches_below r)) ∙ e) h
      (rw (place_same p h) f) (ap (image_view g image) (place_same p h) ∙ v) lt

unused : (named : List ℕ) (k : ℕ) → (k ≡ 0 → ⊥) → elem k named ≡ false → used_by named k ≡ false
unfolding used_by
unused named k d e = or_none (eqb k 0) (elem k named) (ne_eqb k 0 d) e

-- What a step comes to: what a commit keeps, how the volume stands, and the lengths.
pub record Step (g : Geometry) (m : Memory) (r : After) (disk disk' : Disk) : Type 0 where
  pub kept : accepted r ≡ true → CommitKept g m r.memory
  pub stands : Standing g (world_of r) (cond (accepted r) disk' disk)
  pub sized : Sized g r.memory

-- A running volume.
module _ (rules : Rules) (law : Choosing rules) (g : Geometry) (fit : Fits g) (m : Memory) (size : Sized g m) (drive : Drive)
    (tail number : ℕ) (disk : Disk) where
  abbrev s0 : State
  s0 = fresh_state g drive tail number

  module _ (head : ℕ) (change : Change) (values : ℕ → List ℕ) (given : Given rules s0 m.tables m.image head change)
      (on : Settling (started law given) disk values) where
    abbrev start : Start
    start = started law given

    abbrev action : Action
    action = commit_action rules s0 m.tables (view_of g m.image) head change

    abbrev changed : Disk
    changed = updates disk (at change.blocks) values (length change.blocks)

    is_cut : (allowance : ℕ) → allowance < length action.stores → Step g m (performed allowance action m) disk changed
    unfolding commit_action plan_action plan
    is_cut allowance h =
        subst (λ (r : After). Step g m r disk changed) (sym (performed_cut allowance action m h))
        (record {
          kept = λ e. absurd (true≢false (sym e));
          stands = cut refl m.tables tail number (cut_commit on allowance h);
          sized = sized_with g m (applied (take allowance action.stores) m.image) m.tables size;
        })

    -- Used exactly what is live, freed what is not, and all of it reached.
    commit_kept : CommitKept g m (memory_with m (image' start) (tables' start))
    commit_kept =
        let new = (whole_commit on).committed in
        let now = live_is g (image' start) (tables' start) (tail' start) (number' start) (disk' on) fit new in
        let before = live_is g m.image m.tables tail number disk fit on.settled.committed in
        record {
          marked = record {
            used = λ k. new.ground.used_all k ∙ ap (λ (xs : List ℕ). used_by xs k) (sym now);
            reached = λ p h. live_reached g (image' start) (tables' start) (tail' start) (number' start) (disk' on) fit new p (new.ground.chain p h);
          };
          freed = λ k e f.
              let x = elem_named g.l m.tables.entry m.tables.place k (subst (λ (xs : List ℕ). elem k xs ≡ true) before e) in
              let low = on.settled.committed.ground.agreed.sound.low x.0 x.1 in
              let at = x.2 in
              new.ground.used_all k ∙ unused (named_by g.l (tables' start).entry (tables' start).place) k (λ (z : k ≡ 0). omega arith) (subst (λ (xs : List ℕ). elem k xs ≡ false) now f);
        }

    is_whole : (allowance : ℕ) → length action.stores ≤ allowance → Step g m (performed allowance action m) disk changed
    unfolding commit_action plan_action plan tables'
    is_whole allowance h =
        subst (λ (r : After). Step g m r disk changed) (sym (performed_whole allowance action m h))
        (record {
          kept = λ e. commit_kept;
          stands = running drive (tail' start) (number' start) refl (whole_commit on) (whole_blank on);
          sized = sized_with g m (image' start) (tables' start) size;
        })

    pub commit_step : (allowance : ℕ) → Step g m (performed allowance action m) disk changed
    commit_step allowance = ⊎_elim (is_cut allowance) (is_whole allowance) (lt? allowance (length action.stores))
