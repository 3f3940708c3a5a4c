-- The loop has made the stores below i, and so many are left.
use Prim.Native.Nat.{ℕ, ◌≤◌}
use mathlib.Core.Path.{◌≡◌, refl, ◌∙◌, ap, subst}
use mathlib.Core.List.{List}
use native.Mathlib.Numerals.{add-one}
use native.Mathlib.Omega.{arith}
use lib.ListN.{length}
use Rattle.layout.specs.Bounded.{at, always, updated}
use Rattle.layout.specs.Entry.{stored}
use Rattle.volume.specs.Tables.{sector_at}
use Rattle.laws.proofs.Sectors.{sector_length}
use Rattle.power.proofs.Storing.{Storing, storing_starts, storing_stores, storing_fails, storing_ends}
use Rattle.pieces.specs.Arrays.{block_store}
use Rattle.store.proofs.store_data.Goals as goal

pub loop-i-init : goal.loop-i-init
loop-i-init c = storing_starts always _ _ _

pub returns-in_err-left : goal.returns-in_err-left
returns-in_err-left c =
    let none : c.loop-i.left ≡ 0 = omega (arith, c.in_err-left.ensures) in
    let r = storing_fails always (block_store c.args.taken.now c.args.bytes.now) (sector_at c.args.image.now) c.args.allowance c.loop-i.i c.args.count (sector_at c.loop-i.image) c.loop-i-test.true refl
    (subst (λ (x : ℕ). Storing always (block_store c.args.taken.now c.args.bytes.now) (sector_at c.args.image.now) c.args.allowance c.loop-i.i x (sector_at c.loop-i.image)) none c.loop-i.invariant) in
    (c.from_residual.ensures ∙ r.0, r.1)

pub overflow_cast-k-in-loop-i : goal.overflow_cast-k-in-loop-i
overflow_cast-k-in-loop-i c =
    let k = c.requires.by_index c.loop-i.i (omega arith) in
    omega arith

pub store_data-requires : goal.store_data-requires
store_data-requires c =
    let k = c.requires.by_index c.loop-i.i (omega arith) in record {
      sector_bytes_in_bounds = omega arith;
      block_len = ap length c.sector.ensures ∙ sector_length _ c.loop-i.i (omega arith);
    }

pub loop-i-preserved : goal.loop-i-preserved
loop-i-preserved c =
    let some : 1 ≤ c.loop-i.left = c.in_ok-left.ensures.0 in
    rw (add-one, c.in_ok-left.ensures.1)
    (storing_stores always (block_store c.args.taken.now c.args.bytes.now) (sector_at c.args.image.now) c.args.allowance c.loop-i.i c.loop-i.left (sector_at c.loop-i.image) _ refl
    (omega arith) c.loop-i.invariant (c.store_data.ensures ∙ ap (λ (x : List ℕ). updated (sector_at c.loop-i.image) (at c.args.taken.now c.loop-i.i) (stored x)) c.sector.ensures))

pub returns : goal.returns
returns c =
    let e : c.loop-i.i ≡ c.args.count = (omega arith) in
    storing_ends always (block_store c.args.taken.now c.args.bytes.now) (sector_at c.args.image.now) c.args.allowance c.args.count c.loop-i.left (sector_at c.loop-i.image)
    (subst (λ (x : ℕ). Storing always (block_store c.args.taken.now c.args.bytes.now) (sector_at c.args.image.now) c.args.allowance x c.loop-i.left (sector_at c.loop-i.image)) e c.loop-i.invariant)
