-- What is filled stands in front of the other flags.
use Rattle.pieces.proofs.FlagLaws.{flagged_below}
use Rattle.pieces.proofs.flag_all.Goals as goal

pub returns : goal.returns
returns c = flagged_below _ _ _ c.requires (c.fill.ensures.after (λ y e. e))
