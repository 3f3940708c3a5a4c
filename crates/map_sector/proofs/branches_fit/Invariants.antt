-- The branches below i fit.
use mathlib.Core.Path.{◌≡◌}
use Rattle.layout.specs.Bounded.{at, all_below}
use Rattle.layout.specs.Word.{words_of}
use Rattle.layout.specs.MapSector.{branch_words}
use Rattle.map_sector.specs.Header.{branch_fits}
use Rattle.map_sector.proofs.branches_fit.Given as goal

abbrev pub invariant-loop-i : goal.invariant-loop-i
invariant-loop-i l = l.good ≡ all_below (λ k. branch_fits l.n l.count k (at (branch_words (words_of l.s)) k)) l.i
