-- The sectors below k are marked.
use Prim.Native.Nat.{ℕ}
use mathlib.Core.Path.{◌≡◌, ◌∙◌, ap}
use mathlib.Core.Bool.{Bool}
use native.Mathlib.Omega.{arith}
use lib.ListN.{length}
use lib.Dec.{ltb}
use Rattle.lent.proofs.LentLaws.{first_none, first_more}
use Rattle.lent.proofs.mark_first.Goals as goal

pub loop-k-init : goal.loop-k-init
loop-k-init c = first_none c.args.used.now (length c.args.used.now) c.requires.used_value

pub loop-k-preserved : goal.loop-k-preserved
loop-k-preserved c = first_more c.loop-k.used _ c.loop-k.k c.loop-k.invariant c.set_bit.ensures

pub returns : goal.returns
returns c =
    c.loop-k.invariant ∙ ap {B = ℕ → Bool} (λ (x : ℕ). λ j. ltb j x) (let e : c.loop-k.k ≡ c.args.count = omega arith in e)
