-- The entries whose sector passes are counted.
use Rattle.std.proofs.Common.{◌-◌, rules}
use Rattle.geometry.specs.Geometry.{within}
use Rattle.layout.specs.Entry.{sector_of}
use Rattle.names.proofs.entries_inside.Goals as goal

pub returns : goal.returns
returns c =
    (c.count_passing.ensures.counted (λ e. within 1 (c.args.n - 1) (sector_of e)) (λ e b h p. search rules), c.count_passing.ensures.few)
