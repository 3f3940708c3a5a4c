-- The first q entries have the key 0.
use mathlib.Core.Path.{refl, sym, ◌∙◌}
use native.Mathlib.Omega.{arith}
use Rattle.tournament.proofs.TournamentLaws.{entered_on, entered_all}
use Rattle.tournament.proofs.start.Goals as goal

pub loop-q-init : goal.loop-q-init
loop-q-init c =
    record { room = c.requires.tree_len; entries = λ r h. absurd (omega arith) }

pub enter-requires : goal.enter-requires
enter-requires c = record {
  tree_len = c.loop-q.invariant.room;
  n_le_most_pieces = c.requires.n_le_most_pieces;
  q_lt_n = c.loop-q-test.true;
}

pub loop-q-preserved : goal.loop-q-preserved
loop-q-preserved c =
    entered_on c.args.n (λ _. 0) c.loop-q.tree c.loop-q.q c.requires.n_le_most_pieces c.loop-q.invariant _ 0 c.loop-q-test.true refl c.enter.ensures c.enter.auto.tree

pub play_all-requires : goal.play_all-requires
play_all-requires c = record {
  tree_len = c.loop-q.invariant.room;
  n_le_most_pieces = c.requires.n_le_most_pieces;
}

pub shape_of-tree : goal.shape_of-tree
shape_of-tree c =
    c.play_all.auto.tree ∙ c.loop-q.invariant.room ∙ sym c.requires.tree_len

pub returns : goal.returns
returns c =
    entered_all c.args.n (λ _. 0) c.loop-q.tree c.loop-q.q c.requires.n_le_most_pieces c.loop-q.invariant _ c.loop-q-test.false c.play_all.ensures
