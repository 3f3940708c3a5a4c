-- The sectors below k are listed, and the newest closing one of them is known.
use lib.ListN.{length}
use Rattle.volume.specs.Tables.{sector_at}
use Rattle.volume.specs.Recover.{image_view, closing_number}
use Rattle.signed.proofs.Listing.{Listing}
use Rattle.signed.proofs.Newest.{Newest}
use Rattle.signed.proofs.read_signed.Given as goal

abbrev pub invariant-sectors : goal.invariant-sectors
invariant-sectors l =
    Listing (image_view l.g (sector_at l.image)) (length l.initial.sectors) l.sectors l.numbers l.pieces l.from l.k
    × Newest (λ j. closing_number (image_view l.g (sector_at l.image) j)) l.k l.tail l.highest
