-- The part that comes back is the block as it is stored.
use Prim.Native.Nat.{◌+◌, ◌*◌, ◌-◌}
use mathlib.Core.Path.{◌≡◌}
use native.Mathlib.Omega.{arith}
use Rattle.laws.proofs.Sectors.{sector_lent}
use Rattle.images.proofs.store_data.Goals as goal

pub returns : goal.returns
returns c =
    let size : 512 * c.args.k + 512 - 512 * c.args.k ≡ 512 = omega arith in
    sector_lent c.args.image.now c.args.k _ c.store_block.new.dst _ c.requires.sector_bytes_in_bounds size c.store_block.auto.dst c.store_block.ensures
