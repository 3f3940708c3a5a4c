-- The refusals of a commit, with what is said of the bytes.
use Rattle.write.proofs.WriteLaws.{fit_judged}
use Rattle.write.proofs.write_verdict.Goals as goal

pub returns : goal.returns
returns c =
    fit_judged _ _ _ _ _ _ _ _ c.lent_verdict.ensures c.bytes_fit-fit.ensures
