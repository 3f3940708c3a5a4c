-- The first i of each quarter are marked.
use Rattle.layout.specs.Bounded.{at}
use Rattle.layout.specs.Entry.{sector_of}
use Rattle.volume.specs.Tables.{bit_at}
use Rattle.names.proofs.Marking.{Quarters}
use Rattle.names.proofs.mark_quarters.Given as goal

abbrev pub invariant-loop-i : goal.invariant-loop-i
invariant-loop-i l =
    Quarters (λ b. sector_of (at l.map b)) l.quarter l.i (bit_at l.initial.marks) (bit_at l.marks)
