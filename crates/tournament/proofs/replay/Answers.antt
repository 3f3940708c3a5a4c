-- Every match is played but the one of place i, and its entry is at hand.
use mathlib.Core.Path.{refl, sym, ◌∙◌}
use native.Mathlib.Omega.{arith}
use Rattle.tournament.proofs.TournamentLaws.{climbed_on, climbed_up, other_below, max_greater}
use Rattle.tournament.proofs.replay.Goals as goal

pub loop-i-init : goal.loop-i-init
loop-i-init c =
    record { room = c.requires.tree_len; inside = omega arith; at_hand = refl; others = c.requires.by_index; kept = λ k h. refl }

pub other-requires : goal.other-requires
other-requires c =
    omega arith

pub bounds-tree-other : goal.bounds-tree-other
bounds-tree-other c =
    let h = other_below c.loop-i.i (omega arith) in
    omega arith

pub bounds-tree-i-in-loop-i : goal.bounds-tree-i-in-loop-i
bounds-tree-i-in-loop-i c =
    omega arith

pub loop-i-preserved : goal.loop-i-preserved
loop-i-preserved c =
    climbed_on c.args.n c.args.tree.now c.loop-i.tree c.loop-i.i c.loop-i.won c.other.result c.max-won.result c.requires.n_le_most_pieces c.loop-i-test.true c.loop-i.invariant c.other.ensures (c.max-won.ensures ∙ max_greater _ _)

pub shape_of-tree : goal.shape_of-tree
shape_of-tree c =
    c.loop-i.invariant.room ∙ sym c.requires.tree_len

pub returns : goal.returns
returns c =
    climbed_up c.args.n c.args.tree.now c.loop-i.tree c.loop-i.i c.loop-i.won (omega arith) c.loop-i.invariant
