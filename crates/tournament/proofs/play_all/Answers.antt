-- The matches from place k on are played.
use mathlib.Core.Path.{refl, sym, ◌∙◌}
use native.Mathlib.Omega.{arith}
use Rattle.tournament.proofs.TournamentLaws.{descended_on, descended_down}
use Rattle.tournament.proofs.play_all.Goals as goal

pub loop-k-init : goal.loop-k-init
loop-k-init c =
    record { room = c.requires.tree_len; inside = omega arith; done = λ i l b h. absurd (omega arith); kept = λ i h. refl }

pub play-requires : goal.play-requires
play-requires c = record {
  tree_len = c.loop-k.invariant.room;
  k_lt_most_pieces = omega arith;
}

pub loop-k-preserved : goal.loop-k-preserved
loop-k-preserved c =
    descended_on c.args.n c.args.tree.now c.loop-k.tree _ c.loop-k.k c.requires.n_le_most_pieces c.loop-k-test.true c.loop-k.invariant c.play.ensures c.play.auto.tree

pub shape_of-tree : goal.shape_of-tree
shape_of-tree c =
    c.loop-k.invariant.room ∙ sym c.requires.tree_len

pub returns : goal.returns
returns c =
    descended_down c.args.n c.args.tree.now c.loop-k.tree c.loop-k.k (omega arith) c.loop-k.invariant
