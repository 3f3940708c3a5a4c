-- Others and the entries below the index are marked, with the word at hand put back.
use Rattle.std.proofs.Common.{◌≡◌, ℕ, ◌<◌, List}
use Rattle.layout.specs.Bounded.{at}
use Rattle.volume.specs.Tables.{bit_at, used_by}
use Rattle.bits.proofs.WordLaws.{Back}
use Rattle.names.specs.Marked.{with_entries}
use Rattle.names.proofs.mark_few_entries.Given as goal

abbrev pub invariant-loop-entry : goal.invariant-loop-entry
invariant-loop-entry l =
    (l.hand < 16)
    × ((others : List ℕ) → bit_at l.initial.marks ≡ used_by others → Back l.hand l.held (bit_at l.marks) ≡ used_by (with_entries (at l.map) l.entry-index others))
