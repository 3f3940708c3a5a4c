-- What is listed so far and from here on is the whole.
use Prim.Native.Nat.{◌-◌, ◌≤◌}
use lib.ListN.{length, take}
use Rattle.volume.specs.Tables.{sector_at}
use Rattle.pieces.specs.Arrays.{flagged}
use Rattle.tournament.specs.Tournament.{Keyed}
use Rattle.listing.proofs.ListLaws.{key, Listing}
use Rattle.listing.proofs.list_newest.Given as goal

abbrev pub invariant-loop-step : goal.invariant-loop-step
invariant-loop-step l =
    (l.count ≤ 25) × Listing l.g (sector_at l.image) l.places l.numbers l.touched l.number (take l.count l.branches) (length l.numbers - l._step) l.bound (flagged l.reached) ×
    Keyed (length l.numbers) (key l.numbers l.touched l.bound) l.tree
