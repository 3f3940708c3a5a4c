-- The numbers below i are filled in.
use Rattle.layout.specs.Bounded.{at}
use Rattle.volume.specs.Tables.{sector_at}
use Rattle.layout.specs.Word.{words_of}
use Rattle.laws.proofs.Filling.{Filled}
use Rattle.walk.proofs.read_numbers.Given as goal

abbrev pub invariant-loop-i : goal.invariant-loop-i
invariant-loop-i l = Filled (λ q. at (words_of (sector_at l.image (at l.places q))) 2) l.initial.numbers l.i l.numbers
