-- The used map is made, and what is free counted.
use native.Mathlib.Omega.{arith}
use mathlib.Core.Path.{refl, sym}
use mathlib.Core.Bool.{true, false}
use Rattle.layout.specs.Bounded.{at}
use Rattle.soundness.proofs.Sounding.{blocks_most, sectors_some, sectors_most, free_few}
use Rattle.log_tables.proofs.AgreeLaws.{outside, room_made}
use Rattle.log_tables.proofs.agrees.mark_used.Goals as goal

pub judge_names-requires : goal.judge_names-requires
judge_names-requires c =
    let some = sectors_some c.args.g c.requires.g_value in record {
      le_n = omega arith;
      l_le_most_blocks = blocks_most c.args.g c.requires.g_value;
      map_len = c.requires.map_len;
      places_len = c.requires.places_len;
    }

pub returns-in_default : goal.returns-in_default
returns-in_default c =
    outside c.args.g (at c.args.map.now) (at c.args.places.now) false (sym c.in_default.ensures) refl _

pub make_used-requires : goal.make_used-requires
make_used-requires c = record {
  g_value = c.requires.g_value;
  map_len = c.requires.map_len;
  places_len = c.requires.places_len;
  used_len = c.requires.used_len;
  places_value = c.in-Some.ensures.0;
}

pub count_free-free-requires : goal.count_free-free-requires
count_free-free-requires c =
    omega arith

pub once_with_room-requires : goal.once_with_room-requires
once_with_room-requires c =
    let most = sectors_most c.args.g c.requires.g_value in
    let few = free_few c.args.g.n c.count_free-free.result _ c.count_free-free.ensures in record {
      count_bound = c.in-Some.ensures.4;
      free_le_most_sectors = omega arith;
    }

pub returns : goal.returns
returns c =
    let some = sectors_some c.args.g c.requires.g_value in
    room_made c.args.g (at c.args.map.now) (at c.args.places.now) true (sym c.in-Some.ensures.0) refl (omega arith) _ c.make_used.ensures
    c.count_free-free.result c.in-Some.count c.count_free-free.ensures c.in-Some.ensures.1 c.once_with_room.result c.once_with_room.ensures
