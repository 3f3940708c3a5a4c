-- The sectors of the blocks so far are free.
use mathlib.Core.Path.{◌≡◌}
use mathlib.Core.Bool.{not}
use Rattle.layout.specs.Bounded.{at}
use Rattle.layout.specs.Entry.{is_empty, sector_of}
use Rattle.volume.specs.Tables.{bit_at}
use Rattle.pieces.specs.Arrays.{without}
use Rattle.settle.proofs.free_blocks.Given as goal

abbrev pub invariant-loop-b : goal.invariant-loop-b
invariant-loop-b l = bit_at l.used ≡ without (bit_at l.initial.used) (λ j. not (is_empty (at l.map (at l.blocks j)))) (λ j. sector_of (at l.map (at l.blocks j))) l.b-index
