-- The rows that a wrong choice of place runs into: on a drive some sectors are free, and a commit takes some of them from a head on.
use Prim.Native.Nat.{ℕ}
use mathlib.Core.Path.{◌≡◌, refl}
use mathlib.Core.Bool.{Bool, true, false, not}
use mathlib.Core.List.{List, [], ◌∷◌, map}
use lib.ListN.{length}
use Rattle.geometry.specs.declared.Drive.{Drive}
use Rattle.geometry.specs.Geometry.{drive_fits}
use Rattle.geometry.proofs.Sized.{tracked}
use Rattle.layout.specs.Bounded.{elem, list_from}
use Rattle.tracks.specs.Placing.{nearest, least_delay, placed_up_to, place_of, skipped_by}

-- What is free, where the head stands, the sectors that are then taken, in order, and the sum of the delays to the first, the
-- first two and so on.
record Row : Type 0 where
  drive : Drive
  sectors : ℕ
  free : List ℕ
  head : ℕ
  takes : List ℕ
  skips : List ℕ

-- 4 sectors a track: sectors 0 to 3, 4 to 7 and 8 to 11. The head is at position 1 of track 0. Sectors 2 and 3 follow; sector 10,
-- at the position of 2, is no nearer than that. From position 0 of track 0, which is next, 10 is two on; 4 stands at position 0
-- too, but the head switch takes one, and it comes a revolution later.
same_track : Row
same_track = record { drive = tracked 4 3 1; sectors = 12; free = 2 ∷ 3 ∷ 4 ∷ 10 ∷ []; head = 1; takes = 2 ∷ 3 ∷ 10 ∷ []; skips = 1 ∷ 1 ∷ 3 ∷ [] }

-- With no head switch, three sectors at one position tie: the lowest number is taken, though the head is on another track.
tied : Row
tied = record { drive = tracked 4 3 0; sectors = 12; free = 2 ∷ 6 ∷ 10 ∷ []; head = 5; takes = 2 ∷ 6 ∷ 10 ∷ []; skips = 1 ∷ 4 ∷ 7 ∷ [] }

-- A tie between the head's track and a higher one, at the head switch.
tied_upwards : Row
tied_upwards = record { drive = tracked 4 3 2; sectors = 12; free = 3 ∷ 7 ∷ 11 ∷ []; head = 1; takes = 3 ∷ 7 ∷ 11 ∷ []; skips = 2 ∷ 5 ∷ 8 ∷ [] }

-- The head switch does not count on the head's own track: 5 and 6 come before 10, which stands where 6 does.
own_track : Row
own_track = record { drive = tracked 4 3 3; sectors = 12; free = 5 ∷ 6 ∷ 10 ∷ []; head = 4; takes = 5 ∷ 6 ∷ 10 ∷ []; skips = 1 ∷ 1 ∷ 4 ∷ [] }

-- A head switch of 8 on tracks of 3: two revolutions and two positions before another track can be read. The own track comes
-- first, however full.
long_switch : Row
long_switch = record { drive = tracked 3 3 8; sectors = 9; free = 2 ∷ 5 ∷ 6 ∷ []; head = 4; takes = 5 ∷ 2 ∷ 6 ∷ []; skips = 1 ∷ 9 ∷ 18 ∷ [] }

-- The head has just passed position 2: sector 2 comes a revolution later, and 5, on another track, before it.
passed : Row
passed = record { drive = tracked 4 2 0; sectors = 8; free = 2 ∷ 5 ∷ []; head = 3; takes = 5 ∷ 2 ∷ []; skips = 2 ∷ 2 ∷ [] }

-- A store on the last position: the next search starts at position 0 of the same track, not on the next one.
last_position : Row
last_position = record { drive = tracked 4 2 2; sectors = 8; free = 1 ∷ 3 ∷ 5 ∷ []; head = 2; takes = 3 ∷ 1 ∷ 5 ∷ []; skips = 1 ∷ 2 ∷ 5 ∷ [] }

-- Tracks of one sector: every other track is the head switch away.
singles : Row
singles = record { drive = tracked 1 5 2; sectors = 5; free = 1 ∷ 2 ∷ 4 ∷ []; head = 3; takes = 1 ∷ 2 ∷ 4 ∷ []; skips = 2 ∷ 4 ∷ 6 ∷ [] }

-- One track: upwards and around, and sector 0 takes its position in the delay. The head switch does not matter.
around : Row
around = record { drive = tracked 12 1 200; sectors = 12; free = 2 ∷ 5 ∷ 7 ∷ 11 ∷ []; head = 8; takes = 11 ∷ 2 ∷ 5 ∷ 7 ∷ []; skips = 3 ∷ 5 ∷ 7 ∷ 8 ∷ [] }

-- The head stands on a free sector: no delay.
on_the_spot : Row
on_the_spot = record { drive = tracked 4 2 1; sectors = 8; free = 1 ∷ 6 ∷ []; head = 6; takes = 6 ∷ 1 ∷ []; skips = 0 ∷ 2 ∷ [] }

taken : Row → List ℕ
unfolding nearest placed_up_to place_of elem list_from
taken r = list_from (place_of (least_delay r.drive) r.sectors (λ k. not (elem k r.free)) r.head) 0 (length r.takes)

skipped : Row → List ℕ
unfolding nearest placed_up_to skipped_by elem list_from
skipped r = list_from (skipped_by (least_delay r.drive) r.sectors (λ k. not (elem k r.free)) r.head) 1 (length r.takes)

rows : List Row
rows = same_track ∷ tied ∷ tied_upwards ∷ own_track ∷ long_switch ∷ passed ∷ last_position ∷ singles ∷ around ∷ on_the_spot ∷ []

takes_hold : map taken rows ≡ map (λ r. r.takes) rows
unfolding taken rows same_track tied tied_upwards own_track long_switch passed last_position singles around on_the_spot
takes_hold = refl

skips_hold : map skipped rows ≡ map (λ r. r.skips) rows
unfolding skipped rows same_track tied tied_upwards own_track long_switch passed last_position singles around on_the_spot
skips_hold = refl

-- Whether a drive holds N sectors, with its numbers in range.
record Ranged : Type 0 where
  sectors : ℕ
  drive : Drive
  fits : Bool

ranges : List Ranged
ranges =
    record { sectors = 12; drive = tracked 4 3 255; fits = true }
    ∷ record { sectors = 12; drive = tracked 4 3 256; fits = false }
    ∷ record { sectors = 12; drive = tracked 3 3 0; fits = false }
    ∷ record { sectors = 0; drive = tracked 0 3 0; fits = false }
    ∷ record { sectors = 0; drive = tracked 3 0 0; fits = false }
    ∷ record { sectors = 256; drive = tracked 1 256 0; fits = true }
    ∷ record { sectors = 257; drive = tracked 1 257 0; fits = false }
    ∷ record { sectors = 65536; drive = tracked 65536 1 0; fits = true }
    ∷ record { sectors = 65537; drive = tracked 65537 1 0; fits = false }
    ∷ []

ranges_hold : map (λ r. drive_fits r.sectors r.drive) ranges ≡ map (λ r. r.fits) ranges
unfolding ranges
ranges_hold = refl
