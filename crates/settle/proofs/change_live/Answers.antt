-- The written pieces below p have their new places and numbers.
use Prim.Native.Nat.{ℕ, suc, ◌+◌}
use mathlib.Core.Path.{◌≡◌, refl, ◌∙◌, ap}
use native.Mathlib.Omega.{arith}
use lib.ListN.{length}
use Rattle.layout.specs.Bounded.{at, count_below, updated}
use Rattle.pieces.specs.Arrays.{flagged}
use Rattle.laws.proofs.Bounded.{count_before, at_set}
use Rattle.store.proofs.StoreLaws.{is_flagged, not_flagged, rank_starts, rank_skips, rank_grows}
use Rattle.settle.proofs.SettleLaws.{live_none, live_skip, live_put, live_all}
use Rattle.settle.proofs.change_live.Goals as goal

pub loop-p-init : goal.loop-p-init
loop-p-init c =
    let z = rank_starts c.args.written.now in (
      omega arith,
      omega arith,
      live_none (flagged c.args.written.now) (λ q. at c.args.taken.now (c.args.count + count_below (flagged c.args.written.now) q)) (at c.args.places.now),
      live_none (flagged c.args.written.now) (λ q. suc (c.args.number + count_below (flagged c.args.written.now) q)) (at c.args.numbers.now),
    )

pub loop-p-preserved-then-written-p-ne1 : goal.loop-p-preserved-then-written-p-ne1
loop-p-preserved-then-written-p-ne1 c =
    let f = not_flagged c.args.written.now c.loop-p.p c.if-written-p-ne1.true in
    let r = rank_skips c.args.written.now c.loop-p.p _ f refl in (
      omega arith,
      omega arith,
      live_skip (flagged c.args.written.now) (λ q. at c.args.taken.now (c.args.count + count_below (flagged c.args.written.now) q)) (at c.args.places.now) c.loop-p.p (at c.loop-p.places) f c.loop-p.invariant.2,
      live_skip (flagged c.args.written.now) (λ q. suc (c.args.number + count_below (flagged c.args.written.now) q)) (at c.args.numbers.now) c.loop-p.p (at c.loop-p.numbers) f c.loop-p.invariant.3,
    )

pub overflow_add-next : goal.overflow_add-next
overflow_add-next c =
    let f = is_flagged c.args.written.now _ c.if-written-p-ne1.false in
    let b = count_before (flagged c.args.written.now) _ (length c.args.places.now) (omega arith) f in
    omega arith

pub bounds-taken-k : goal.bounds-taken-k
bounds-taken-k c =
    let f = is_flagged c.args.written.now _ c.if-written-p-ne1.false in
    let b = count_before (flagged c.args.written.now) _ (length c.args.places.now) (omega arith) f in
    omega arith

pub loop-p-preserved : goal.loop-p-preserved
loop-p-preserved c =
    let f = is_flagged c.args.written.now c.loop-p.p c.if-written-p-ne1.false in
    let r = rank_grows c.args.written.now c.loop-p.p (count_below (flagged c.args.written.now) c.loop-p.p) f refl in
    let v1 : ℕ → ℕ = (λ q. at c.args.taken.now (c.args.count + count_below (flagged c.args.written.now) q)) in
    let v2 : ℕ → ℕ = (λ q. suc (c.args.number + count_below (flagged c.args.written.now) q)) in (
      omega arith,
      omega arith,
      live_put (flagged c.args.written.now) v1 (at c.args.places.now) c.loop-p.p (at c.loop-p.places) _ f c.loop-p.invariant.2
          (at_set c.loop-p.places c.loop-p.p (at c.args.taken.now c.loop-p.k) (omega arith) ∙ ap
          (λ (y : ℕ). updated (at c.loop-p.places) c.loop-p.p (at c.args.taken.now y)) c.loop-p.invariant.0),
      live_put (flagged c.args.written.now) v2 (at c.args.numbers.now) c.loop-p.p (at c.loop-p.numbers) _ f c.loop-p.invariant.3
          (at_set c.loop-p.numbers c.loop-p.p (c.loop-p.next + 1) (omega arith) ∙ ap (updated (at c.loop-p.numbers) c.loop-p.p)
          (let y : c.loop-p.next + 1 ≡ suc (c.args.number + count_below (flagged c.args.written.now) c.loop-p.p) = omega arith in y)),
    )

pub returns : goal.returns
returns c =
    let e : c.loop-p.p ≡ length c.args.places.now = omega arith in (
      live_all (flagged c.args.written.now) (λ q. at c.args.taken.now (c.args.count + count_below (flagged c.args.written.now) q)) (at c.args.places.now) c.loop-p.p (at c.loop-p.places) (λ q h. c.requires.by_index q (omega arith)) c.loop-p.invariant.2,
      live_all (flagged c.args.written.now) (λ q. suc (c.args.number + count_below (flagged c.args.written.now) q)) (at c.args.numbers.now) c.loop-p.p (at c.loop-p.numbers) (λ q h. c.requires.by_index q (omega arith)) c.loop-p.invariant.3,
    )
