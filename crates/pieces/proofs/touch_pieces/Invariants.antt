-- The pieces of the blocks so far are flagged.
use mathlib.Core.Path.{◌≡◌}
use Rattle.pieces.specs.Arrays.{flagged}
use Rattle.pieces.proofs.FlagLaws.{touched_by}
use Rattle.pieces.proofs.touch_pieces.Given as goal

abbrev pub invariant-loop-b : goal.invariant-loop-b
invariant-loop-b l = flagged l.flags ≡ touched_by l.blocks l.b-index
