-- What is struck out counts as 0 below the bound already; the first entry falls with each turn.
use mathlib.Core.Path.{refl, sym, ◌∙◌}
use native.Mathlib.Omega.{arith}
use Rattle.tournament.proofs.TournamentLaws.{striking_on, striking_less, striking_done}
use Rattle.tournament.proofs.keep_below.Goals as goal

pub loop-tree-init : goal.loop-tree-init
loop-tree-init c =
    record { room = c.requires.tree_len; tournament = c.requires.tournament; keys = λ q h. refl }

pub bounds-tree-1 : goal.bounds-tree-1
bounds-tree-1 c =
    omega arith

pub strike_first-requires : goal.strike_first-requires
strike_first-requires c = record {
  tree_len = c.loop-tree.invariant.room;
  n_le_most_pieces = c.requires.n_le_most_pieces;
  n_nonzero = c.requires.n_nonzero;
  tournament = c.loop-tree.invariant.tournament;
}

pub loop-tree-smaller : goal.loop-tree-smaller
loop-tree-smaller c =
    striking_less c.args.n c.args.bound c.args.tree.now c.loop-tree.tree c.requires.n_le_most_pieces c.requires.n_nonzero c.loop-tree.invariant _ c.requires.bound_nonzero c.loop-tree-test.true c.strike_first.ensures

pub loop-tree-preserved : goal.loop-tree-preserved
loop-tree-preserved c =
    striking_on c.args.n c.args.bound c.args.tree.now c.loop-tree.tree c.requires.n_le_most_pieces c.requires.n_nonzero c.loop-tree.invariant _ c.loop-tree-test.true c.strike_first.auto.tree c.strike_first.ensures

pub shape_of-tree : goal.shape_of-tree
shape_of-tree c =
    c.loop-tree.invariant.room ∙ sym c.requires.tree_len

pub returns : goal.returns
returns c =
    striking_done c.args.n c.args.bound c.args.tree.now c.loop-tree.tree c.requires.n_le_most_pieces c.requires.n_nonzero c.loop-tree.invariant c.loop-tree-test.false
