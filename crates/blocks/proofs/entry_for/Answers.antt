-- Bit 31 is set where the block is stored flipped.
use mathlib.Core.Path.{sym, ◌∙◌}
use Rattle.blocks.proofs.Blocks.{entry_flipped, entry_plain}
use Rattle.blocks.proofs.entry_for.Goals as goal

pub returns-then-needs_flip : goal.returns-then-needs_flip
returns-then-needs_flip c = sym (entry_flipped _ _ (sym c.needs_flip.ensures ∙ c.if-needs_flip.true))

pub returns : goal.returns
returns c = sym (entry_plain _ _ (sym c.needs_flip.ensures ∙ c.if-needs_flip.false))
