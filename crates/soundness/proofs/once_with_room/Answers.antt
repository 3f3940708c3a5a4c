-- Named twice, or the room decides.
use Rattle.soundness.proofs.Sounding.{twice, once_then}
use Rattle.soundness.proofs.once_with_room.Goals as goal

pub returns-then-free-count : goal.returns-then-free-count
returns-then-free-count c =
    twice c.args.free c.args.count c.args.g.n _ c.if-free-count.true

pub returns : goal.returns
returns c =
    once_then c.args.free c.args.count c.args.g.n _ c.pieces_for.result c.if-free-count.false c.pieces_for.ensures
