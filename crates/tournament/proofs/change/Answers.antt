-- Only the match that the changed entry plays first may be wrong before the replay.
use mathlib.Core.Path.{◌∙◌}
use Rattle.tournament.specs.Tournament.{ranked}
use Rattle.tournament.proofs.TournamentLaws.{others_played, changed_replay}
use Rattle.tournament.proofs.change.Goals as goal

pub replay-requires : goal.replay-requires
replay-requires c = record {
  tree_len = c.enter.auto.tree ∙ c.requires.tree_len;
  n_le_most_pieces = c.requires.n_le_most_pieces;
  q_lt_n = c.requires.q_lt_n;
  by_index = others_played c.args.n c.args.q (ranked c.args.n c.args.q c.args.key) c.args.tree.now _ c.enter.ensures c.requires.tournament.played;
}

pub returns : goal.returns
returns c =
    changed_replay c.args.n c.args.q (ranked c.args.n c.args.q c.args.key) c.args.tree.now _ c.enter.ensures c.replay.ensures
