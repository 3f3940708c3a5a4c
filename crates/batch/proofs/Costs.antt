-- What a commit costs at most: as many stores as it is allowed, and a delay of less than 65,791 for each of at most 320.
use Prim.Native.Nat.{ℕ, zero, suc, ◌*◌, ◌≤◌, ◌<◌}
use mathlib.Core.Path.{◌≡◌, sym, subst}
use mathlib.Core.Logic.{⊎_elim}
use mathlib.Core.Bool.{Bool, true, false}
use native.Mathlib.Omega.{arith}
use lib.ListN.{length, length-append}
use lib.Dec.{eqb}
use Rattle.std.specs.Prelude.{Ok}
use Rattle.geometry.specs.declared.Drive.{Drive}
use Rattle.geometry.specs.Geometry.{sector_bytes, pieces_for, geometry_fits}
use Rattle.state.specs.declared.State.{State}
use Rattle.answer.specs.Answer.{cost_of}
use Rattle.layout.specs.Bounded.{always}
use Rattle.tracks.specs.Placing.{least_delay, placed_up_to, skipped_by}
use Rattle.volume.specs.Tables.{Memory}
use Rattle.volume.specs.Refusals.{judged}
use Rattle.volume.specs.Store.{After, Action, performed, stores_below}
use Rattle.volume.specs.Rules.{base}
use Rattle.volume.specs.Commit.{Change, Plan, planned, data_store, member_store, commit_stores, plan_action, commit_action}
use Rattle.volume.specs.Calls.{view_of, state_fits, commit_checks, commit_of, write_change, drop_change, write_by}
use Rattle.batches.specs.Batch.{Commit, commit_made}
use Rattle.laws.proofs.Bounded.{lt?, bool?, and_r, count_le}
use Rattle.laws.proofs.Delays.{DriveFits, drive_fits_lem, delay_short}
use Rattle.laws.proofs.Stores.{below_length}
use Rattle.laws.proofs.Sizes.{fits}
use Rattle.laws.proofs.Judged.{verdict?, performed_cut, performed_whole}
use Rattle.laws.proofs.CommitPassed.{CommitPassed, commit_passed}

-- The delays to the first j places.
skipped_few : (n : ℕ) (d : Drive) → DriveFits n d → (is_used : ℕ → Bool) (head j : ℕ) → (placed_up_to (least_delay d) n is_used head j).skipped ≤ 65791 * j
unfolding placed_up_to
skipped_few n d fit is_used head zero = omega arith
skipped_few n d fit is_used head (suc j) =
    let before = placed_up_to (least_delay d) n is_used head j in
    let r = skipped_few n d fit is_used head j in
    let one = delay_short d fit.some before.start ((least_delay d).choose n before.is_used before.start).sector in
    let most = fit.most in
    let switch = fit.switch in
    omega arith

-- What an answer costs, held to an allowance.
pub record Few (allowance : ℕ) (r : After) : Type 0 where
  pub stores : (cost_of r.outcome.answer).stores ≤ allowance
  pub skipped : (cost_of r.outcome.answer).skipped ≤ 21053120

module _ (s : State) (m : Memory) (head : ℕ) (change : Change) (bytes_fit has_room : Bool) (named : change.data_sectors ≤ length change.blocks) where
  abbrev action : Action
  action = commit_action base s m.tables (view_of s.geometry m.image) head change

  abbrev plan : Plan
  plan = planned base s m.tables (view_of s.geometry m.image) head change

  module _ (c : CommitPassed base s m head change.blocks bytes_fit has_room) where
    stores_few : length action.stores ≤ 320
    unfolding commit_action plan_action commit_stores state_fits
    stores_few =
        let fit = fits s.geometry (and_r (eqb m.lengths.image (sector_bytes * s.geometry.n)) (geometry_fits s.geometry) c.sizes) in
        let datas = below_length always (data_store plan change) change.data_sectors in
        let maps = below_length plan.written (member_store s m.tables plan change) (pieces_for s.geometry.l) in
        let both = length-append (stores_below always (data_store plan change) change.data_sectors)
        (stores_below plan.written (member_store s m.tables plan change) (pieces_for s.geometry.l)) in
        let few = count_le always change.data_sectors in
        let fewer = count_le plan.written (pieces_for s.geometry.l) in
        let most = fit.most in
        let blocks = c.named.most in
        omega arith

    bill_few : (j : ℕ) → j ≤ 320 → (action.cost j).skipped ≤ 21053120
    unfolding commit_action plan_action planned skipped_by
    bill_few j h =
        let r = skipped_few s.geometry.n s.drive (drive_fits_lem s.geometry.n s.drive c.drive) m.tables.is_used head j in
        omega arith

    passed_few : (allowance : ℕ) → Few allowance (performed allowance action m)
    unfolding commit_action plan_action
    passed_few allowance =
        let few = stores_few in
        ⊎_elim (λ (h : allowance < length action.stores).
        subst (Few allowance) (sym (performed_cut allowance action m h))
        (record { stores = omega arith; skipped = bill_few allowance (omega arith) }))
        (λ (h : length action.stores ≤ allowance).
        subst (Few allowance) (sym (performed_whole allowance action m h))
        (record { stores = h; skipped = bill_few (length action.stores) few }))
        (lt? allowance (length action.stores))

  commit_few : (allowance : ℕ) → Few allowance (commit_of base s m head change bytes_fit has_room allowance)
  unfolding commit_of
  commit_few allowance =
      ⊎_elim (λ (e : judged (commit_checks base s m head change.blocks bytes_fit has_room) ≡ Ok tt).
      rw e (passed_few (commit_passed base s m head change.blocks bytes_fit has_room e) allowance))
      (λ v. rw v.1 (record { stores = omega arith; skipped = omega arith }))
      (verdict? (judged (commit_checks base s m head change.blocks bytes_fit has_room)))

-- Of any commit of a batch.
pub made_few : (s : State) (m : Memory) (c : Commit) (allowance : ℕ) → Few allowance (commit_made base s m c allowance)
unfolding commit_made write_by write_change drop_change
made_few s m c allowance =
    ⊎_elim (λ (e : eqb c.kind 0 ≡ true). rw e (commit_few s m c.head (write_change c.blocks c.bytes) _ _ (omega arith) allowance))
    (λ (e : eqb c.kind 0 ≡ false).
    ⊎_elim (λ (f : eqb c.kind 1 ≡ true). rw (e, f) (commit_few s m c.head (drop_change c.blocks) _ _ (omega arith) allowance))
    (λ (f : eqb c.kind 1 ≡ false). rw (e, f) (record { stores = omega arith; skipped = omega arith }))
    (bool? (eqb c.kind 1)))
    (bool? (eqb c.kind 0))
