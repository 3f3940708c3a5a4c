-- The number of the verdict, and the phase that is left.
use Rattle.plain.proofs.PlainLaws.{batch_result_is}
use Rattle.plain.proofs.batch_result_of.Goals as goal

pub returns : goal.returns
returns c =
    batch_result_is c.args.c c.args.o _ _ c.verdict_number-answer.ensures c.phase_left-phase.ensures
