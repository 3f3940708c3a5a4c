-- The first of the tournament, and then those below its number.
use Rattle.listing.proofs.ListLaws.{taken_one, taken_none}
use Rattle.listing.proofs.take_newest.Goals as goal

pub returns-then-number-eq0 : goal.returns-then-number-eq0
returns-then-number-eq0 c =
    taken_none _ _ _ _ c.requires.keyed c.requires.numbers_nonzero _ _ c.first-piece.ensures c.older_key-number.ensures c.if-number-eq0.true

pub returns : goal.returns
returns c =
    taken_one _ _ _ _ c.requires.keyed c.requires.numbers_nonzero _ _ c.first-piece.ensures c.older_key-number.ensures _ c.if-number-eq0.false c.keep_below.ensures
