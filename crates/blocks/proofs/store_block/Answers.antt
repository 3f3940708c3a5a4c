-- The block is copied, and its first byte complemented where it begins with the map mark.
use mathlib.Core.Path.{sym, ap, ◌∙◌}
use Rattle.layout.specs.Entry.{complemented}
use Rattle.blocks.proofs.Blocks.{stored_flipped, stored_plain}
use Rattle.blocks.proofs.store_block.Goals as goal

pub returns-then-needs_flip : goal.returns-then-needs_flip
returns-then-needs_flip c =
    c.complement.ensures
    ∙ ap complemented c.copy_from_slice.ensures.after
    ∙ sym (stored_flipped c.args.block.now (sym c.needs_flip.ensures ∙ c.if-needs_flip.true))

pub returns-else-needs_flip : goal.returns-else-needs_flip
returns-else-needs_flip c =
    c.copy_from_slice.ensures.after
    ∙ sym (stored_plain c.args.block.now (sym c.needs_flip.ensures ∙ c.if-needs_flip.false))
