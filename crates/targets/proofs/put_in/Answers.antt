-- Its number and its piece are what the bytes say.
use native.Mathlib.Omega.{arith}
use Rattle.targets.proofs.TargetLaws.{put_done}
use Rattle.targets.proofs.put_in.Goals as goal

pub change-requires : goal.change-requires
change-requires c = record {
  tree_len = c.requires.tree_len;
  n_le_most_pieces = c.requires.waiting_len_bound;
  q_lt_n = omega arith;
  tournament = c.requires.tournament;
}

pub returns : goal.returns
returns c =
    put_done _ _ _ _ c.piece_of-p.result c.number_of-number.result c.piece_of-p.ensures c.number_of-number.ensures _ c.change.ensures
