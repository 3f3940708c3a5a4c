-- The first place names the entry.
use native.Mathlib.Omega.{arith}
use Rattle.tournament.proofs.TournamentLaws.{first_rank, first_best}
use Rattle.tournament.proofs.first.Goals as goal

pub overflow_sub-result-2 : goal.overflow_sub-result-2
overflow_sub-result-2 c =
    let h = first_rank c.args.n c.args.tree.now c.requires.n_le_most_pieces c.requires.n_nonzero c.requires.tournament in
    omega arith

pub returns : goal.returns
returns c =
    let e = first_best c.args.n c.args.tree.now c.requires.n_le_most_pieces c.requires.n_nonzero c.requires.tournament in
    (e, omega arith)
