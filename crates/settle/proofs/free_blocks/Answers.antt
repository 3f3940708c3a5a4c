-- The sectors of the blocks so far are free.
use Prim.Native.Nat.{ℕ, ◌*◌, ◌<◌}
use mathlib.Core.Path.{◌≡◌, ◌∙◌, ap, sym, subst}
use mathlib.Core.Bool.{Bool, not}
use native.Mathlib.Omega.{arith}
use lib.ListN.{length}
use Rattle.layout.specs.Bounded.{at}
use Rattle.layout.specs.Entry.{is_empty, sector_of}
use Rattle.volume.specs.Tables.{bit_at}
use Rattle.pieces.specs.Arrays.{without}
use Rattle.settle.proofs.SettleLaws.{without_none, without_more}
use Rattle.settle.proofs.free_blocks.Goals as goal

pub loop-b-init : goal.loop-b-init
loop-b-init c =
    without_none (bit_at c.args.used.now) (λ i. not (is_empty (at c.args.map.now (at c.args.blocks.now i)))) (λ i. sector_of (at c.args.map.now (at c.args.blocks.now i)))

pub free_entry-requires : goal.free_entry-requires
free_entry-requires c =
    λ e. subst
    (λ (x : ℕ). sector_of (at c.args.map.now (at c.args.blocks.now c.loop-b.b-index)) < 8 * x) (sym c.loop-b.auto.used)
    (c.requires.by_index_2 (at c.args.blocks.now c.loop-b.b-index) (c.requires.by_index c.loop-b.b-index c.loop-b-test.true) e)

pub loop-b-preserved : goal.loop-b-preserved
loop-b-preserved c =
    without_more (bit_at c.args.used.now) (λ i. not (is_empty (at c.args.map.now (at c.args.blocks.now i))))
    (λ i. sector_of (at c.args.map.now (at c.args.blocks.now i))) c.loop-b.b-index (bit_at c.loop-b.used) _ c.loop-b.invariant c.free_entry.ensures

pub returns : goal.returns
returns c =
    c.loop-b.invariant ∙ ap {B = ℕ → Bool} (λ (x : ℕ). without (bit_at c.args.used.now) (λ i. not (is_empty (at c.args.map.now (at c.args.blocks.now i)))) (λ i. sector_of (at c.args.map.now (at c.args.blocks.now i))) x) (let e : c.loop-b.b-index ≡ length c.args.blocks.now = omega arith in e)
