-- The numbers of the answer, and the state that is left.
use Rattle.plain.proofs.PlainLaws.{result_is}
use Rattle.plain.proofs.result_of.Goals as goal

pub returns : goal.returns
returns c =
    result_is c.args.c c.args.o _ _ _ _ _ c.state_left-left.result c.number-answer.ensures c.stores-stores.ensures c.skipped-skipped.ensures c.way-way.ensures c.sectors_read-read.ensures c.state_left-left.ensures
