-- The sectors so far are marked.
use Prim.Native.Nat.{ℕ}
use mathlib.Core.Path.{◌≡◌, ◌∙◌, ap}
use mathlib.Core.Bool.{Bool}
use native.Mathlib.Omega.{arith}
use lib.ListN.{length}
use Rattle.volume.specs.Tables.{bit_at}
use Rattle.settle.proofs.SettleLaws.{marking, marking_none, marking_more}
use Rattle.settle.proofs.use_places.Goals as goal

pub loop-k-init : goal.loop-k-init
loop-k-init c = marking_none (bit_at c.args.used.now) c.args.taken.now

pub set_bit-requires : goal.set_bit-requires
set_bit-requires c =
    let h = c.requires _ c.loop-k-test.true in
    omega arith

pub loop-k-preserved : goal.loop-k-preserved
loop-k-preserved c =
    marking_more (bit_at c.args.used.now) c.args.taken.now c.loop-k.k-index (bit_at c.loop-k.used) _ c.loop-k.invariant c.set_bit.ensures

pub returns : goal.returns
returns c =
    c.loop-k.invariant ∙ ap {B = ℕ → Bool} (λ (x : ℕ). marking (bit_at c.args.used.now) c.args.taken.now x) (let e : c.loop-k.k-index ≡ length c.args.taken.now = omega arith in e)
