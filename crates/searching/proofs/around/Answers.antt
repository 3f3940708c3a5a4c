-- Each answer is what the test decided.
use borrow.Author.Tests.{lt-ltb, le-ltb}
use Rattle.searching.proofs.around.Goals as goal

pub returns-then-k-end : goal.returns-then-k-end
returns-then-k-end c = simp (lt-ltb _ _ c.if-k-end.true)

pub returns : goal.returns
returns c = simp (le-ltb _ _ c.if-k-end.false)
