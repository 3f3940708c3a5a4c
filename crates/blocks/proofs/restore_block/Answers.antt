-- An empty entry reads as zeros, a flipped one as the bytes with the first complemented, any other as the bytes.
use mathlib.Core.Path.{sym, ap, ◌∙◌}
use Rattle.layout.specs.Entry.{complemented}
use Rattle.blocks.proofs.Blocks.{restored_empty, restored_flipped, restored_plain}
use Rattle.blocks.proofs.restore_block.Goals as goal

pub returns-then-entry-eq0 : goal.returns-then-entry-eq0
returns-then-entry-eq0 c =
    c.copy_from_slice.ensures.after ∙ sym (restored_empty c.args.entry c.args.bytes.now c.if-entry-eq0.true)

pub returns-then-is_flipped : goal.returns-then-is_flipped
returns-then-is_flipped c =
    c.complement.ensures
    ∙ ap complemented c.copy_from_slice-2.ensures.after
    ∙ sym (restored_flipped c.args.entry c.args.bytes.now c.if-entry-eq0.false (sym c.is_flipped.ensures ∙ c.if-is_flipped.true))

pub returns-else-is_flipped : goal.returns-else-is_flipped
returns-else-is_flipped c =
    c.copy_from_slice-2.ensures.after
    ∙ sym (restored_plain c.args.entry c.args.bytes.now c.if-entry-eq0.false (sym c.is_flipped.ensures ∙ c.if-is_flipped.false))
