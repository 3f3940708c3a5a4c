-- The commit that is lent there, and the words of its answer.
use mathlib.Core.Path.{refl}
use Rattle.batch.proofs.Commits.{made_at}
use Rattle.batch.proofs.answer_commit.Goals as goal

pub put_answer-requires : goal.put_answer-requires
put_answer-requires c =
    c.requires.answer_words_in_bounds

pub returns-clause-value : goal.returns-clause-value
returns-clause-value c = (
  made_at c.args.words.now c.args.blocks.now c.args.bytes.now c.args.i c.args.block c.args.byte _ _ c.requires.block_value c.requires.byte_value refl refl _ _ _ _ c.make_commit-o.ensures.value,
  c.put_answer.ensures,
)
