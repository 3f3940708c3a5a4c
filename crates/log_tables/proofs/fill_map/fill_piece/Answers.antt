-- The entries below i of the piece are filled in.
use Prim.Native.Nat.{◌+◌, ◌<◌}
use mathlib.Core.Path.{◌≡◌, sym, ◌∙◌}
use native.Mathlib.Omega.{arith}
use lib.ListN.{length}
use Rattle.log_tables.proofs.MapLaws.{piece_starts, piece_more, piece_ends}
use Rattle.log_tables.proofs.fill_map.fill_piece.Goals as goal

pub loop-i-init : goal.loop-i-init
loop-i-init c = λ f old h e. piece_starts f old _ _ h

pub loop-i-preserved : goal.loop-i-preserved
loop-i-preserved c =
    let b : c.args.first + c.loop-i.i < length c.loop-i.map = omega arith in
    λ f old h e. piece_more f old c.args.first c.loop-i.i _ c.loop-i.map b (e c.loop-i.i c.loop-i-test.true ∙ sym c.entry_at.ensures) (c.loop-i.invariant f old h e)

pub returns : goal.returns
returns c =
    let all : c.loop-i.i ≡ c.args.count = omega arith in
    λ f old h e. piece_ends f old c.args.first c.loop-i.i c.args.count c.loop-i.map all (c.loop-i.invariant f old h e)
