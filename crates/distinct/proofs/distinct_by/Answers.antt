-- The first test is sure where it says true.
use mathlib.Core.Path.{refl, sym}
use Rattle.std.proofs.lemmas.Fn.{says_at}
use Rattle.distinct.proofs.distinct_by.Goals as goal

pub returns-then-apart : goal.returns-then-apart
returns-then-apart g c = sym (c.requires.sure c.apart.result (says_at g.F.Fn c.apart.ensures refl) c.if-apart.true)
