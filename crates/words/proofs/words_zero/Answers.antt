-- A number from 0 to 0 is zero.
use Rattle.std.proofs.Common.{◌∙◌}
use Rattle.geometry.specs.Geometry.{within}
use Rattle.layout.specs.Bounded.{is_zero}
use Rattle.laws.proofs.Lists.{all_alike, within_zero}
use Rattle.words.proofs.words_zero.Goals as goal

pub returns : goal.returns
returns c = c.words_within.ensures ∙ all_alike (within 0 0) is_zero within_zero _
