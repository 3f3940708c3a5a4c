-- Others and the entries below the index are marked.
use Rattle.std.proofs.Common.{◌≡◌, ℕ, List}
use Rattle.layout.specs.Bounded.{at}
use Rattle.volume.specs.Tables.{bit_at, used_by}
use Rattle.names.specs.Marked.{with_entries}
use Rattle.names.proofs.mark_full.Given as goal

abbrev pub invariant-loop-entry : goal.invariant-loop-entry
invariant-loop-entry l =
    (others : List ℕ) → bit_at l.initial.marks ≡ used_by others → bit_at l.marks ≡ used_by (with_entries (at l.map) l.entry-index others)
