-- Each return, by a law of Sounding.
use native.Mathlib.Omega.{arith}
use mathlib.Core.Path.{refl, sym, ap}
use mathlib.Core.Bool.{true, false, not}
use lib.ListN.{length}
use Rattle.layout.specs.Bounded.{at}
use Rattle.volume.specs.Tables.{bit_at}
use Rattle.names.proofs.Marking.{named_bits}
use Rattle.soundness.proofs.Sounding.{sectors_some, sectors_most, names_fail, bits_fail, bits_pass, room_decides, free_few}
use Rattle.soundness.proofs.names_agree.Goals as goal

pub returns-in_default : goal.returns-in_default
returns-in_default c =
    names_fail c.args.g (at c.args.t.now.map.now) (at c.args.t.now.places.now) (bit_at c.args.t.now.used.now) false (sym c.in_default.ensures) refl

pub returns-then-not-named_bits_agree : goal.returns-then-not-named_bits_agree
returns-then-not-named_bits_agree c =
    bits_fail c.args.g (at c.args.t.now.map.now) (at c.args.t.now.places.now) (bit_at c.args.t.now.used.now) true (sym c.in-Some.ensures.0) refl
    c.named_bits_agree.result (length c.args.t.now.used.now) c.requires.sized.used_len _ (named_bits c.args.g (at c.args.t.now.map.now) (at c.args.t.now.places.now) _ _ c.requires.sized.places_len c.requires.sized.map_len _ refl) c.named_bits_agree.ensures (ap not c.if-not-named_bits_agree.true)

pub once_with_room-requires-clause-free_le_most_sectors : goal.once_with_room-requires-clause-free_le_most_sectors
once_with_room-requires-clause-free_le_most_sectors c =
    let most = sectors_most c.args.g c.requires.g_value in
    let few = free_few c.args.g.n c.args.free _ c.requires.free_value in
    omega arith

pub returns : goal.returns
returns c =
    let some = sectors_some c.args.g c.requires.g_value in
    let bits = bits_pass c.args.g (at c.args.t.now.map.now) (at c.args.t.now.places.now) (bit_at c.args.t.now.used.now) true (sym c.in-Some.ensures.0) refl
    c.named_bits_agree.result (length c.args.t.now.used.now) c.requires.sized.used_len _ (named_bits c.args.g (at c.args.t.now.map.now) (at c.args.t.now.places.now) _ _ c.requires.sized.places_len c.requires.sized.map_len _ refl) c.named_bits_agree.ensures (ap not c.if-not-named_bits_agree.false) in
    room_decides c.args.g (at c.args.t.now.map.now) (at c.args.t.now.places.now) (bit_at c.args.t.now.used.now) true (sym c.in-Some.ensures.0) refl
    bits (omega arith) c.args.free c.in-Some.count c.requires.free_value c.in-Some.ensures.1 c.once_with_room.result c.once_with_room.ensures
