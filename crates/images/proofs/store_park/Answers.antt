-- The part that comes back is the park record.
use Prim.Native.Nat.{◌-◌}
use mathlib.Core.Path.{◌≡◌}
use native.Mathlib.Omega.{arith}
use Rattle.laws.proofs.Sectors.{sector_lent}
use Rattle.images.proofs.store_park.Goals as goal

pub returns : goal.returns
returns c =
    let size : 512 - 0 ≡ 512 = omega arith in
    sector_lent c.args.image.now 0 _ c.put_park.new.s _ (c.requires) size c.put_park.auto.s c.put_park.ensures
