-- The flags of the front that are set.
use mathlib.Core.Path.{◌≡◌, ◌∙◌}
use lib.ListN.{take}
use lib.Dec.{eqb}
use Rattle.std.proofs.Common.{rules}
use Rattle.std.specs.List.{count_by}
use Rattle.pieces.proofs.FlagLaws.{flags_counted}
use Rattle.pieces.proofs.count_flagged.Goals as goal

pub returns : goal.returns
returns c = let e : c.count.result ≡ count_by (λ f. eqb f 1) (take c.args.pieces c.args.flags.now) = search rules in e ∙ flags_counted _ _ c.requires
