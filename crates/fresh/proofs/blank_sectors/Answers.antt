-- As many as the allowance has, or all.
use Rattle.volume.specs.Tables.{sector_at}
use Rattle.fresh.proofs.Blanking.{blank_most}
use Rattle.fresh.proofs.blank_sectors.Goals as goal

pub returns : goal.returns
returns c =
    blank_most (sector_at c.args.image.now) c.args.allowance c.args.n c.min.result _ _ c.min.ensures c.checked_sub.ensures c.blank_first.ensures
