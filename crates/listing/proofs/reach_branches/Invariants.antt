-- What the first i branches reach is reached.
use mathlib.Core.Path.{◌≡◌}
use Rattle.layout.specs.Word.{words_of}
use Rattle.layout.specs.MapSector.{branch_words}
use Rattle.volume.specs.Tables.{sector_at}
use Rattle.pieces.specs.Arrays.{flagged}
use Rattle.listing.proofs.ListLaws.{reached_by}
use Rattle.listing.proofs.reach_branches.Given as goal

abbrev pub invariant-loop-i : goal.invariant-loop-i
invariant-loop-i l =
    flagged l.reached ≡ reached_by (flagged l.initial.reached) l.places l.numbers (branch_words (words_of (sector_at l.image l.place))) l.bound l.i
