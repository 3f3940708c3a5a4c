-- Past the end of the marks nothing is marked.
use Rattle.std.proofs.Common.{sym, ◌∙◌}
use borrow.Author.Tests.{ltb-false}
use Rattle.live_marks.proofs.MarkLaws.{zero_dead, other_live, past_dead}
use Rattle.live_marks.proofs.is_live.Goals as goal
use Rattle.live_marks.proofs.is_live.Goals.{then-k-ne0, else-k-ne0}

pub returns-else-k-used : goal.returns-else-k-used
returns-else-k-used c =
    c.if-k-used.false
    ∙ elim c.if-k-ne0.branch [ then-k-ne0 w ↦ other_live _ _ _ w.if-k-ne0.true (past_dead _ _ (ltb-false _ _ (sym w.value-is ∙ c.if-k-used.false))) | else-k-ne0 w ↦ zero_dead _ _ w.if-k-ne0.false ]
