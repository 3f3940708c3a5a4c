-- The entries below i are those of the blocks.
use Rattle.layout.specs.Bounded.{at}
use Rattle.layout.specs.Entry.{entry_for}
use Rattle.volume.specs.Tables.{sector_at}
use Rattle.laws.proofs.Filling.{Filled}
use Rattle.entries.proofs.entries_for.Given as goal

abbrev pub invariant-loop-i : goal.invariant-loop-i
invariant-loop-i l = Filled (λ k. entry_for (sector_at l.bytes k) (at l.places k)) l.initial.entries l.i l.entries
