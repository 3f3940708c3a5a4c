-- What was well so far and what is left are the whole.
use Rattle.std.proofs.Common.{◌≤◌, length, arith}
use Rattle.geometry.specs.Geometry.{within}
use Rattle.layout.specs.Word.{words_of}
use Rattle.laws.proofs.Words.{length_words_of}
use Rattle.words.proofs.Gathering.{gathered_more, gathered_all}
use Rattle.words.proofs.words_within.Goals as goal

pub loop-k-preserved : goal.loop-k-preserved
loop-k-preserved c =
    let ws = words_of c.args.s.now in
    let bound : c.args.end ≤ length ws = omega (arith, length_words_of c.args.s.now) in
    gathered_more (within c.args.low c.args.high) ws c.args.end bound _ c.loop-k.good c.loop-k.k c.loop-k.invariant c.loop-k-test.true
    c.word_at.result c.word_at.ensures c.still_within-good.result c.still_within-good.ensures

pub returns : goal.returns
returns c =
    let ws = words_of c.args.s.now in
    let bound : c.args.end ≤ length ws = omega (arith, length_words_of c.args.s.now) in
    gathered_all (within c.args.low c.args.high) ws c.args.end bound _ c.loop-k.good c.loop-k.k c.loop-k.invariant (omega arith)
