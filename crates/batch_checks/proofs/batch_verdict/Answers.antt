-- The lengths refuse it, or the count of the commits decides.
use mathlib.Core.Path.{refl}
use Rattle.std.proofs.lemmas.Result.{err_from_is_err_and}
use Rattle.batch_checks.proofs.BatchLaws.{whole_refused, whole_passed}
use Rattle.batch_checks.proofs.batch_verdict.Goals as goal

pub returns-in_err-state_verdict : goal.returns-in_err-state_verdict
returns-in_err-state_verdict c =
    let p = err_from_is_err_and c.from_residual.result c.from_residual.ensures.1 in
    rw (p.1, p.2) (whole_refused _ _ _ _ _ _ _ _ _ _ c.buffers_fit-fit.result c.buffers_fit-fit.ensures _ c.in_err-state_verdict.ensures _ refl)

pub returns : goal.returns
returns c =
    whole_passed _ _ _ _ _ _ _ _ _ _ c.buffers_fit-fit.result c.buffers_fit-fit.ensures _ c.in_ok-state_verdict.ensures refl _ c.count_verdict.ensures
