-- The pieces of the blocks so far are flagged.
use native.Mathlib.Omega.{arith}
use lib.ListN.{length}
use Rattle.pieces.proofs.FlagLaws.{touched_none, touched_more, touched_all}
use Rattle.pieces.proofs.touch_pieces.Goals as goal

pub loop-b-init : goal.loop-b-init
loop-b-init c =
    touched_none c.args.flags.now c.args.blocks.now (length c.args.flags.now) c.requires.flags_value

pub loop-b-preserved : goal.loop-b-preserved
loop-b-preserved c =
    let h = c.requires.by_index c.loop-b.b-index (omega arith) in
    touched_more c.loop-b.flags c.args.blocks.now c.loop-b.b-index c.piece_of.result c.piece_of.ensures (omega arith) c.loop-b.invariant

pub returns : goal.returns
returns c =
    touched_all c.loop-b.flags _ c.loop-b.b-index (omega arith) c.loop-b.invariant
