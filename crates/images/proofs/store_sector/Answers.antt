-- The part that comes back holds the bytes, so the image is one with that sector stored.
use Prim.Native.Nat.{◌+◌, ◌*◌, ◌-◌}
use mathlib.Core.Path.{◌≡◌}
use native.Mathlib.Omega.{arith}
use Rattle.laws.proofs.Sectors.{sector_lent}
use Rattle.images.proofs.store_sector.Goals as goal

pub returns : goal.returns
returns c =
    let size : 512 * c.args.k + 512 - 512 * c.args.k ≡ 512 = omega arith in
    sector_lent c.args.image.now c.args.k _ c.copy_from_slice.new.self _ c.requires.sector_bytes_in_bounds size c.copy_from_slice.auto.self c.copy_from_slice.ensures.after
