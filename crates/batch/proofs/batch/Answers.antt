-- Refused as a whole it hands everything back; otherwise its commits are made.
use Rattle.batch.proofs.Whole.{whole_refused, whole_lent, whole_done}
use Rattle.batch.proofs.batch.Goals as goal

pub make_commits-requires : goal.make_commits-requires
make_commits-requires c =
    whole_lent c.args.s c.args.m.now.image.now c.args.m.now.map.now c.args.m.now.places.now c.args.m.now.numbers.now c.args.m.now.used.now c.args.words.now c.args.blocks.now c.args.bytes.now c.args.allowance c.args.answers.now
    c.batch_verdict-verdict.result (rw c.lengths.ensures at c.batch_verdict-verdict.ensures) c.in-Ok.is

pub returns-in-Err-clause-value : goal.returns-in-Err-clause-value
returns-in-Err-clause-value c =
    whole_refused c.args.s c.args.m.now.image.now c.args.m.now.map.now c.args.m.now.places.now c.args.m.now.numbers.now c.args.m.now.used.now c.args.words.now c.args.blocks.now c.args.bytes.now c.args.allowance c.args.answers.now
    c.batch_verdict-verdict.result (rw c.lengths.ensures at c.batch_verdict-verdict.ensures) _ _ c.stores_alone.ensures c.in-Err.is

pub returns-in-Ok-clause-value : goal.returns-in-Ok-clause-value
returns-in-Ok-clause-value c =
    whole_done c.args.s c.args.m.now.image.now c.args.m.now.map.now c.args.m.now.places.now c.args.m.now.numbers.now c.args.m.now.used.now c.args.words.now c.args.blocks.now c.args.bytes.now c.args.allowance c.args.answers.now
    c.batch_verdict-verdict.result (rw c.lengths.ensures at c.batch_verdict-verdict.ensures) c.in-Ok.is _ c.make_commits.ensures.value
