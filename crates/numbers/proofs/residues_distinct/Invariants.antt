-- Those below the index are distinct, and their residues are marked.
use Rattle.layout.specs.Bounded.{at}
use Rattle.volume.specs.Tables.{bit_at}
use Rattle.numbers.proofs.Numbering.{Residues}
use Rattle.numbers.proofs.residues_distinct.Given as goal

abbrev pub invariant-loop-number : goal.invariant-loop-number
invariant-loop-number l = Residues (at l.numbers) (bit_at l.seen) l.number-index
