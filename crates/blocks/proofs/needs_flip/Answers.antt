-- The mark compared with is the map mark.
use Rattle.layout.specs.Entry.{needs_flip}
use Rattle.blocks.proofs.needs_flip.Goals as goal

pub returns : goal.returns
unfolding needs_flip
returns c = c.starts_with.ensures
