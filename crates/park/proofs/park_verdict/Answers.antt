-- Each refusal is the first that applies, by the laws of ParkLaws.
use mathlib.Core.Path.{refl, ap}
use Rattle.std.proofs.lemmas.Result.{err_from_is_err_and}
use Rattle.state.specs.State.{is_running}
use Rattle.park.proofs.ParkLaws.{lengths_refused, phase_refused, running_judged, state_passed, lengths_passed}
use Rattle.park.proofs.park_verdict.Goals as goal

pub tables_verdict-requires : goal.tables_verdict-requires
tables_verdict-requires c = record {
  used_value = state_passed _ _ _ _ _ _ _ (rw c.lengths.ensures at c.in_ok-state_verdict.ensures) refl;
  geometry_value = lengths_passed _ _ _ _ _ _ _ (rw c.lengths.ensures at c.in_ok-state_verdict.ensures) refl;
}

pub returns-in_err-state_verdict : goal.returns-in_err-state_verdict
returns-in_err-state_verdict c =
    let p = err_from_is_err_and c.from_residual.result c.from_residual.ensures.1 in
    rw (p.1, p.2) (lengths_refused _ _ _ _ _ _ _ (rw c.lengths.ensures at c.in_err-state_verdict.ensures) _ refl)

pub returns-in-Running : goal.returns-in-Running
returns-in-Running c =
    running_judged _ _ _ _ _ _ _ (rw c.lengths.ensures at c.in_ok-state_verdict.ensures) refl
    c.tables_verdict.result (ap is_running c.in-Running.is) c.tables_verdict.ensures

pub returns-in-Parked : goal.returns-in-Parked
returns-in-Parked c =
    phase_refused _ _ _ _ _ _ _ (rw c.lengths.ensures at c.in_ok-state_verdict.ensures) refl (ap is_running c.in-Parked.is)

pub returns-in-Cut : goal.returns-in-Cut
returns-in-Cut c =
    phase_refused _ _ _ _ _ _ _ (rw c.lengths.ensures at c.in_ok-state_verdict.ensures) refl (ap is_running c.in-Cut.is)
