-- More than 24 fold; otherwise nothing changes.
use mathlib.Core.Path.{refl}
use borrow.Author.Tests.{lt-ltb, le-ltb}
use Rattle.plan.proofs.fold.Goals as goal

pub returns-then-listed-le-BRANCH_ROOM : goal.returns-then-listed-le-BRANCH_ROOM
returns-then-listed-le-BRANCH_ROOM c =
    rw (le-ltb 24 _ c.if-listed-le-BRANCH_ROOM.true) (refl, refl)

pub returns : goal.returns
returns c =
    rw (lt-ltb 24 _ c.if-listed-le-BRANCH_ROOM.false) (refl, c.flag_all.ensures)
