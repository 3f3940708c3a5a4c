-- Sound tables name places below n; the returns are laws of LiveLaws.
use Prim.Native.Nat.{◌≤◌}
use native.Mathlib.Omega.{arith}
use Rattle.soundness.proofs.Sounding.{sectors_some, blocks_most}
use Rattle.live_sectors.proofs.LiveLaws.{image_long, geometry_fits_lem, map_long, places_long, numbers_long, used_long, tables_unsound, places_below, live_decides}
use mathlib.Core.Path.{ap}
use mathlib.Core.Bool.{not}
use Rattle.live_sectors.proofs.tables_agree.Goals as goal

pub is_consistent-requires : goal.is_consistent-requires
is_consistent-requires c =
    let fits = geometry_fits_lem c.args.s c.args.image.now c.args.t.now.map.now c.args.t.now.places.now c.args.t.now.numbers.now c.args.t.now.used.now c.requires.used_value in
    let map = map_long c.args.s c.args.image.now c.args.t.now.map.now c.args.t.now.places.now c.args.t.now.numbers.now c.args.t.now.used.now c.requires.geometry_value in
    let places = places_long c.args.s c.args.image.now c.args.t.now.map.now c.args.t.now.places.now c.args.t.now.numbers.now c.args.t.now.used.now c.requires.geometry_value in
    let numbers = numbers_long c.args.s c.args.image.now c.args.t.now.map.now c.args.t.now.places.now c.args.t.now.numbers.now c.args.t.now.used.now c.requires.geometry_value in
    let used = used_long c.args.s c.args.image.now c.args.t.now.map.now c.args.t.now.places.now c.args.t.now.numbers.now c.args.t.now.used.now c.requires.geometry_value in record {
      g_value = fits;
      sized = record { map_len = map; places_len = places; numbers_len = numbers; used_len = used };
      free_value = c.requires.free_value;
    }

pub returns-then-not-is_consistent : goal.returns-then-not-is_consistent
returns-then-not-is_consistent c =
    tables_unsound _ _ _ _ _ _ c.is_consistent.result c.is_consistent.ensures (ap not c.if-not-is_consistent.true)

pub live_valid-requires : goal.live_valid-requires
live_valid-requires c =
    let g = geometry_fits_lem c.args.s c.args.image.now c.args.t.now.map.now c.args.t.now.places.now c.args.t.now.numbers.now c.args.t.now.used.now c.requires.used_value in
    let n = sectors_some c.args.s.geometry g in
    let l = blocks_most c.args.s.geometry g in
    let least : 1 ≤ c.args.s.geometry.n = omega arith in record {
      le_n = least;
      l_bound = omega arith;
      image_len = image_long c.args.s c.args.image.now c.args.t.now.map.now c.args.t.now.places.now c.args.t.now.numbers.now c.args.t.now.used.now c.requires.used_value;
      map_len = map_long c.args.s c.args.image.now c.args.t.now.map.now c.args.t.now.places.now c.args.t.now.numbers.now c.args.t.now.used.now c.requires.geometry_value;
      places_len = places_long c.args.s c.args.image.now c.args.t.now.map.now c.args.t.now.places.now c.args.t.now.numbers.now c.args.t.now.used.now c.requires.geometry_value;
      numbers_len = numbers_long c.args.s c.args.image.now c.args.t.now.map.now c.args.t.now.places.now c.args.t.now.numbers.now c.args.t.now.used.now c.requires.geometry_value;
      by_index = places_below c.args.s c.args.image.now c.args.t.now.map.now c.args.t.now.places.now c.args.t.now.numbers.now c.args.t.now.used.now c.is_consistent.result
          c.is_consistent.ensures (ap not c.if-not-is_consistent.false) least;
    }

pub returns : goal.returns
returns c =
    live_decides _ _ _ _ _ _ c.is_consistent.result c.is_consistent.ensures (ap not c.if-not-is_consistent.false) c.live_valid.result c.live_valid.ensures
