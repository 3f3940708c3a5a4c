-- The sum so far is that of the words passed.
use Rattle.std.proofs.Common.{◌≡◌, take}
use Rattle.layout.specs.Word.{words_of, word_sum}
use Rattle.sums.proofs.word_sum.Given as goal

abbrev pub invariant-loop-k : goal.invariant-loop-k
invariant-loop-k l = l.sum ≡ word_sum (take l.k (words_of l.s))
