-- The entries below i are marked.
use Rattle.std.proofs.Common.{◌≡◌, ℕ, Bool}
use Rattle.layout.specs.Bounded.{at}
use Rattle.layout.specs.Entry.{sector_of}
use Rattle.volume.specs.Tables.{bit_at}
use Rattle.names.specs.Marked.{marked}
use Rattle.names.proofs.mark_rest.Given as goal

abbrev pub invariant-loop-i : goal.invariant-loop-i
invariant-loop-i l =
    (first : ℕ → Bool) → bit_at l.initial.marks ≡ marked (λ b. sector_of (at l.map b)) l.from first → bit_at l.marks ≡ marked (λ b. sector_of (at l.map b)) l.i first
