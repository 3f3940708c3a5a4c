-- The places of the written pieces below q are free.
use mathlib.Core.Path.{◌≡◌}
use Rattle.layout.specs.Bounded.{at}
use Rattle.volume.specs.Tables.{bit_at}
use Rattle.pieces.specs.Arrays.{flagged, without}
use Rattle.settle.proofs.free_places.Given as goal

abbrev pub invariant-loop-q : goal.invariant-loop-q
invariant-loop-q l = bit_at l.used ≡ without (bit_at l.initial.used) (flagged l.written) (at l.places) l.q
