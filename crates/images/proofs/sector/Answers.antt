-- The part lent has the length of a sector.
use Prim.Native.Nat.{ℕ, ◌+◌, ◌*◌, ◌-◌}
use mathlib.Core.Path.{◌≡◌, ap}
use native.Mathlib.Omega.{arith}
use lib.ListN.{take, drop}
use Rattle.volume.specs.Tables.{sector_at}
use Rattle.images.proofs.sector.Goals as goal

pub returns : goal.returns
unfolding sector_at
returns c =
    let size : 512 * c.args.k + 512 - 512 * c.args.k ≡ 512 = omega arith in
    ap (λ (n : ℕ). take n (drop (512 * c.args.k) c.args.image.now)) size
