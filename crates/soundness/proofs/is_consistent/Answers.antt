-- Names and used bits, then numbers and tail.
use native.Mathlib.Omega.{arith}
use mathlib.Core.Path.{sym, ◌∙◌}
use lib.ListN.{length}
use Rattle.volume.specs.Tables.{tables_of}
use Rattle.soundness.proofs.Sounding.{blocks_some, sound_fails, numbers_decide}
use mathlib.Core.Path.{ap}
use mathlib.Core.Bool.{not}
use Rattle.soundness.proofs.is_consistent.Goals as goal

pub returns-then-not-names_agree : goal.returns-then-not-names_agree
returns-then-not-names_agree c =
    sound_fails c.args.g (tables_of c.args.t.now.map.now c.args.t.now.places.now c.args.t.now.numbers.now c.args.t.now.used.now) c.args.tail c.args.number c.names_agree.result c.names_agree.ensures (ap not c.if-not-names_agree.true)

pub numbers_agree-requires : goal.numbers_agree-requires
numbers_agree-requires c =
    let some = blocks_some c.args.g c.requires.g_value in record {
      numbers_nonzero = omega arith;
      places_len = c.requires.sized.places_len ∙ sym c.requires.sized.numbers_len;
    }

pub returns : goal.returns
returns c =
    numbers_decide c.args.g (tables_of c.args.t.now.map.now c.args.t.now.places.now c.args.t.now.numbers.now c.args.t.now.used.now) c.args.tail c.args.number c.names_agree.result c.names_agree.ensures (ap not c.if-not-names_agree.false)
    (length c.args.t.now.numbers.now) c.requires.sized.numbers_len c.numbers_agree.result c.numbers_agree.ensures
