-- The loop has made the stores below p, and so many are left; it ends when all were made, or when none is left.
use Prim.Native.Nat.{ℕ, ◌≤◌}
use mathlib.Core.Path.{◌≡◌, refl, ◌∙◌, subst}
use native.Mathlib.Numerals.{add-one}
use native.Mathlib.Omega.{arith}
use Rattle.layout.specs.Bounded.{always}
use Rattle.volume.specs.Tables.{sector_at}
use Rattle.volume.specs.Format.{piece_store}
use Rattle.power.proofs.Storing.{Storing, storing_starts, storing_stores, storing_fails, storing_ends}
use Rattle.fresh.proofs.store_pieces.Goals as goal

pub loop-p-init : goal.loop-p-init
loop-p-init c = storing_starts always (piece_store _) _ _

pub returns-in_err-left : goal.returns-in_err-left
returns-in_err-left c =
    let none : c.loop-p.left ≡ 0 = omega (arith, c.in_err-left.ensures) in
    let r = storing_fails always (piece_store c.args.l) (sector_at c.args.image.now) c.args.allowance c.loop-p.p c.args.pieces (sector_at c.loop-p.image) c.loop-p-test.true refl
    (subst (λ (x : ℕ). Storing always (piece_store c.args.l) (sector_at c.args.image.now) c.args.allowance c.loop-p.p x (sector_at c.loop-p.image)) none c.loop-p.invariant) in
    (c.from_residual.ensures ∙ r.0, r.1)

pub store_piece-requires : goal.store_piece-requires
store_piece-requires c = record {
  pieces_value = c.requires.pieces_value;
  p_lt_most_pieces = omega arith;
  sector_bytes_in_bounds = omega arith;
}

pub loop-p-preserved : goal.loop-p-preserved
loop-p-preserved c =
    let some : 1 ≤ c.loop-p.left = c.in_ok-left.ensures.0 in
    rw (add-one, c.in_ok-left.ensures.1)
    (storing_stores always (piece_store _) _ _ c.loop-p.p c.loop-p.left (sector_at c.loop-p.image) _ refl
    (omega arith) c.loop-p.invariant (rw add-one at c.store_piece.ensures))

pub returns : goal.returns
returns c =
    let e : c.loop-p.p ≡ c.args.pieces = omega arith in
    storing_ends always (piece_store c.args.l) (sector_at c.args.image.now) c.args.allowance c.args.pieces c.loop-p.left (sector_at c.loop-p.image)
    (subst (λ (x : ℕ). Storing always (piece_store c.args.l) (sector_at c.args.image.now) c.args.allowance x c.loop-p.left (sector_at c.loop-p.image)) e c.loop-p.invariant)
