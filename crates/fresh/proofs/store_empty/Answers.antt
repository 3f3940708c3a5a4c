-- What store_map leaves of a map that has no entry.
use Prim.Native.Nat.{◌+◌}
use mathlib.Core.Path.{◌∙◌, ap}
use lib.Dec.{eqb}
use Rattle.layout.specs.Bounded.{updated}
use Rattle.volume.specs.Tables.{sector_at}
use Rattle.fresh.proofs.FormatLaws.{empty_made}
use Rattle.fresh.proofs.store_empty.Goals as goal

pub returns : goal.returns
returns c =
    c.store_map.ensures.1
    ∙ ap (updated (sector_at c.args.image.now) (c.args.p + 1)) (empty_made c.args.l c.args.p (c.args.p + 1) (eqb (c.args.p + 1) c.args.pieces) c.args.branches.now)
