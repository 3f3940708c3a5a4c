-- The sum so far is that of the words passed.
use Rattle.std.proofs.Common.{refl, ap, ◌∙◌, arith, take_all}
use Rattle.layout.specs.Word.{words_of, word_sum}
use Rattle.laws.proofs.Words.{length_words_of}
use Rattle.laws.proofs.Sums.{sum_next}
use Rattle.sums.proofs.word_sum.Goals as goal

pub loop-k-init : goal.loop-k-init
unfolding word_sum
loop-k-init c = refl

pub loop-k-preserved : goal.loop-k-preserved
loop-k-preserved c =
    cc (sum_next (words_of c.args.s.now) c.loop-k.k (omega (arith, length_words_of c.args.s.now)))

pub returns : goal.returns
returns c =
    c.loop-k.invariant ∙ ap word_sum (take_all c.loop-k.k (words_of c.args.s.now) (omega (arith, length_words_of c.args.s.now)))
