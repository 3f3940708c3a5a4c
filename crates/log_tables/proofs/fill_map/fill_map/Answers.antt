-- The pieces so far are filled in.
use Prim.Native.Nat.{◌<◌}
use native.Mathlib.Omega.{arith}
use lib.ListN.{length}
use Rattle.laws.proofs.Filling.{filled_none}
use Rattle.log_tables.proofs.MapLaws.{piece_entry, next_piece}
use Rattle.log_tables.proofs.fill_map.fill_map.Goals as goal

pub loop-place-init : goal.loop-place-init
loop-place-init c =
    (omega arith, omega arith, λ h. omega arith, filled_none _ _)

pub fill_next-first-requires : goal.fill_next-first-requires
fill_next-first-requires c = record {
  sector_bytes_in_bounds = c.requires.by_index c.loop-place.place-index c.loop-place-test.true;
  first_in_bounds = omega arith;
}

pub loop-place-preserved : goal.loop-place-preserved
loop-place-preserved c =
    let more : c.loop-place.first < length c.args.map.now = omega arith in
    let t = c.loop-place.invariant.2 more in
    (omega arith, omega arith, next_piece _ _ _ _ _ c.loop-place.auto.map t c.fill_next-first.ensures.3, c.fill_next-first.ensures.4 _ _ c.loop-place.invariant.3 (λ i h. piece_entry c.args.image.now c.args.places.now _ _ i t h))
