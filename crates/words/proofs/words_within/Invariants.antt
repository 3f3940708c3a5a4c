-- What was well so far and what is left are the whole.
use Rattle.std.proofs.Common.{◌≡◌, ◌&&◌}
use lib.Seq.{slice}
use Rattle.geometry.specs.Geometry.{within}
use Rattle.layout.specs.Bounded.{all}
use Rattle.layout.specs.Word.{words_of}
use Rattle.words.proofs.words_within.Given as goal

abbrev pub invariant-loop-k : goal.invariant-loop-k
invariant-loop-k l = all (within l.low l.high) (slice l.from l.end (words_of l.s)) ≡ (l.good && all (within l.low l.high) (slice l.k l.end (words_of l.s)))
