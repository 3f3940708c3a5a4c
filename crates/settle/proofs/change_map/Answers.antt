-- The first i blocks have their new entries.
use Prim.Native.Nat.{ℕ}
use mathlib.Core.Path.{◌≡◌, ◌∙◌, ap}
use native.Mathlib.Omega.{arith}
use lib.ListN.{length}
use Rattle.layout.specs.Bounded.{at, updates}
use Rattle.settle.proofs.SettleLaws.{changed_none, changed_more}
use Rattle.settle.proofs.change_map.Goals as goal

pub loop-i-init : goal.loop-i-init
loop-i-init c = changed_none c.args.map.now c.args.blocks.now c.args.news.now

pub loop-i-preserved : goal.loop-i-preserved
loop-i-preserved c =
    let h = c.requires.by_index c.loop-i.i c.loop-i-test.true in
    changed_more c.args.map.now c.loop-i.map c.args.blocks.now c.args.news.now c.loop-i.i (omega arith) c.loop-i.invariant

pub returns : goal.returns
returns c =
    c.loop-i.invariant ∙ ap {B = ℕ → ℕ} (λ (x : ℕ). updates (at c.args.map.now) (at c.args.blocks.now) (at c.args.news.now) x) (let e : c.loop-i.i ≡ length c.args.blocks.now = omega arith in e)
