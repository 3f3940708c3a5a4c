-- The places of the written pieces below q are free.
use Prim.Native.Nat.{ℕ}
use mathlib.Core.Path.{◌≡◌, ◌∙◌, ap}
use mathlib.Core.Bool.{Bool}
use native.Mathlib.Omega.{arith}
use lib.ListN.{length}
use Rattle.layout.specs.Bounded.{at}
use Rattle.volume.specs.Tables.{bit_at}
use Rattle.pieces.specs.Arrays.{flagged, without}
use Rattle.store.proofs.StoreLaws.{is_flagged, not_flagged}
use Rattle.settle.proofs.SettleLaws.{without_none, without_hit, without_miss}
use Rattle.settle.proofs.free_places.Goals as goal

pub loop-q-init : goal.loop-q-init
loop-q-init c = without_none _ _ _

pub loop-q-preserved-then-written-q-ne1 : goal.loop-q-preserved-then-written-q-ne1
loop-q-preserved-then-written-q-ne1 c =
    without_miss _ _ _ c.loop-q.q (bit_at c.loop-q.used) (not_flagged _ c.loop-q.q c.if-written-q-ne1.true) c.loop-q.invariant

pub clear_bit-requires : goal.clear_bit-requires
clear_bit-requires c =
    let h = c.requires.by_index _ c.loop-q-test.true in
    omega arith

pub loop-q-preserved : goal.loop-q-preserved
loop-q-preserved c =
    without_hit _ _ _ c.loop-q.q (bit_at c.loop-q.used) _ (is_flagged _ c.loop-q.q c.if-written-q-ne1.false) c.loop-q.invariant c.clear_bit.ensures

pub returns : goal.returns
returns c =
    c.loop-q.invariant ∙ ap {B = ℕ → Bool} (λ (x : ℕ). without (bit_at c.args.used.now) (flagged c.args.written.now) (at c.args.places.now) x) (let e : c.loop-q.q ≡ length c.args.places.now = omega arith in e)
