-- Those from index i on are marked.
use mathlib.Core.Path.{◌≡◌}
use lib.ListN.{length}
use Rattle.volume.specs.Tables.{bit_at}
use Rattle.signed.specs.Signed.{marked_above}
use Rattle.signed.proofs.Listing.{Stepped}
use Rattle.signed.proofs.mark_above.Given as goal

abbrev pub invariant-listed : goal.invariant-listed
invariant-listed l =
    (length l.above ≡ length l.initial.above) × Stepped (marked_above l.c) l.sectors l.numbers l.numbers l.i (bit_at l.initial.above) (bit_at l.above)
