-- Names and used bits, then numbers and tail.
use native.Mathlib.Omega.{arith}
use mathlib.Core.Path.{sym, ◌∙◌}
use lib.ListN.{length}
use Rattle.soundness.proofs.Sounding.{blocks_some}
use Rattle.log_tables.proofs.AgreeLaws.{used_fails, numbers_tell}
use mathlib.Core.Path.{ap}
use mathlib.Core.Bool.{not}
use Rattle.log_tables.proofs.agrees.log_agrees.Goals as goal

pub returns-then-not-mark_used : goal.returns-then-not-mark_used
returns-then-not-mark_used c =
    used_fails c.args.g c.args.map.now c.args.places.now c.args.numbers.now c.args.tail c.args.number c.mark_used.result _ c.mark_used.ensures (ap not c.if-not-mark_used.true)

pub numbers_agree-requires : goal.numbers_agree-requires
numbers_agree-requires c =
    let some = blocks_some c.args.g c.requires.g_value in record {
      numbers_nonzero = omega arith;
      places_len = c.requires.places_len ∙ sym c.requires.numbers_len;
    }

pub returns : goal.returns
returns c =
    numbers_tell c.args.g c.args.map.now c.args.places.now c.args.numbers.now c.args.tail c.args.number c.mark_used.result _ c.mark_used.ensures (ap not c.if-not-mark_used.false)
    (length c.args.numbers.now) c.requires.numbers_len c.numbers_agree.result c.numbers_agree.ensures
