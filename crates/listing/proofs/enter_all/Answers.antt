-- The first q pieces are entered.
use Rattle.tournament.proofs.TournamentLaws.{entered_on, entered_all}
use Rattle.listing.proofs.enter_all.Goals as goal

pub loop-q-preserved : goal.loop-q-preserved
loop-q-preserved c =
    entered_on _ _ c.loop-q.tree c.loop-q.q c.requires.numbers_len_bound c.loop-q.invariant
    _ c.older_key.result c.loop-q-test.true c.older_key.ensures c.enter.ensures c.enter.auto.tree

pub returns : goal.returns
returns c =
    entered_all _ _ c.loop-q.tree c.loop-q.q c.requires.numbers_len_bound c.loop-q.invariant
    _ c.loop-q-test.false c.play_all.ensures
