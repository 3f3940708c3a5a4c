-- A word from n on fits nowhere; another fits where it is zero exactly if the branch is unused.
use native.Mathlib.Omega.{arith}
use Rattle.map_sector.proofs.Branches.{branch_is}
use Rattle.map_sector.proofs.still_fits.Goals as goal

pub returns : goal.returns
returns c =
    branch_is c.args.n c.args.count c.args.i c.args.w (omega arith) c.args.good
