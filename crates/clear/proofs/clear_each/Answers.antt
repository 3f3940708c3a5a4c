-- The loop has made the stores below k, and so many are left; it ends when all were made, or when one is due and none is left.
use Prim.Native.Nat.{ℕ, ◌≤◌}
use mathlib.Core.Path.{◌≡◌, sym, ◌∙◌, ap, subst}
use mathlib.Core.Bool.{not}
use native.Mathlib.Numerals.{add-one}
use native.Mathlib.Omega.{arith}
use borrow.Author.Tests.{not-true, not-false}
use Rattle.volume.specs.Tables.{sector_at, bit_at}
use Rattle.volume.specs.Format.{blank_store}
use Rattle.power.proofs.Storing.{Storing, storing_starts, storing_skips, storing_stores, storing_fails, storing_ends}
use Rattle.clear.proofs.clear_each.Goals as goal

pub loop-k-init : goal.loop-k-init
loop-k-init c = storing_starts _ blank_store _ _

pub loop-k-preserved-then-not-is_set : goal.loop-k-preserved-then-not-is_set
loop-k-preserved-then-not-is_set c =
    rw add-one
    (storing_skips _ blank_store _ _ c.loop-k.k c.loop-k.left (sector_at c.loop-k.image)
    (sym c.is_set.ensures ∙ not-true c.is_set.result (ap not c.if-not-is_set.true)) c.loop-k.invariant)

pub returns-in_err-left : goal.returns-in_err-left
returns-in_err-left c =
    let none : c.loop-k.left ≡ 0 = omega (arith, c.in_err-left.ensures) in
    let r = storing_fails (bit_at c.args.above.now) blank_store (sector_at c.args.image.now) c.args.allowance c.loop-k.k c.args.n (sector_at c.loop-k.image) c.loop-k-test.true
    (sym c.is_set.ensures ∙ not-false c.is_set.result (ap not c.if-not-is_set.false))
    (subst (λ (x : ℕ). Storing (bit_at c.args.above.now) blank_store (sector_at c.args.image.now) c.args.allowance c.loop-k.k x (sector_at c.loop-k.image)) none c.loop-k.invariant) in
    (c.from_residual.ensures ∙ r.0, r.1)

pub loop-k-preserved : goal.loop-k-preserved
loop-k-preserved c =
    let some : 1 ≤ c.loop-k.left = c.in_ok-left.ensures.0 in
    rw (add-one, c.in_ok-left.ensures.1)
    (storing_stores _ blank_store _ _ c.loop-k.k c.loop-k.left (sector_at c.loop-k.image) _
    (sym c.is_set.ensures ∙ not-false c.is_set.result (ap not c.if-not-is_set.false)) (omega arith) c.loop-k.invariant c.blank_sector.ensures)

pub returns : goal.returns
returns c =
    let e : c.loop-k.k ≡ c.args.n = omega arith in
    storing_ends (bit_at c.args.above.now) blank_store (sector_at c.args.image.now) c.args.allowance c.args.n c.loop-k.left (sector_at c.loop-k.image)
    (subst (λ (x : ℕ). Storing (bit_at c.args.above.now) blank_store (sector_at c.args.image.now) c.args.allowance x c.loop-k.left (sector_at c.loop-k.image)) e c.loop-k.invariant)
