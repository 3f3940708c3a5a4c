-- What is left of a sector's number without its position.
use native.Mathlib.Nat.{mod-le, div-add-mod'}
use native.Mathlib.Omega.{arith}
use Rattle.placing.proofs.first_of.Goals as goal

pub overflow_sub-result : goal.overflow_sub-result
overflow_sub-result c = mod-le c.args.k c.args.d.sectors

pub returns : goal.returns
returns c =
    let whole = div-add-mod' c.args.k c.args.d.sectors in
    omega arith
