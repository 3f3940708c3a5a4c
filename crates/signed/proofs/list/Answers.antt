-- Three stores.
use mathlib.Core.Path.{refl, ap}
use lib.ListN.{set}
use Rattle.signed.proofs.list.Goals as goal

pub returns : goal.returns
returns c =
    (refl, ap (set c.args.numbers.now c.args.i) c.number_of.ensures, ap (set c.args.pieces.now c.args.i) c.piece_of.ensures)
