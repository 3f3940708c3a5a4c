-- The entry that is changed is the first one.
use Rattle.tournament.proofs.TournamentLaws.{struck_replay}
use Rattle.tournament.proofs.strike_first.Goals as goal

pub returns : goal.returns
returns c =
    struck_replay c.args.n c.first-q.result c.args.tree.now c.first-q.ensures.0 c.change.ensures
