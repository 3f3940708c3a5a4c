-- Each answer is the test that decided it.
use Prim.Native.Nat.{◌≤◌, ◌<◌}
use native.Mathlib.Omega.{arith}
use borrow.Author.Tests.{le-leb, lt-leb, lt-ltb, le-ltb, eq-eqb, ne_eqb}
use Rattle.geometry.specs.Geometry.{pieces_for}
use Rattle.map_sector.specs.Header.{fields_fit}
use Rattle.map_sector.proofs.fields_fit.Goals as goal

pub returns-then-number-lt1 : goal.returns-then-number-lt1
unfolding fields_fit
returns-then-number-lt1 c = simp (lt-leb _ _ c.if-number-lt1.true)

pub returns-then-reserved-ne0 : goal.returns-then-reserved-ne0
unfolding fields_fit
returns-then-reserved-ne0 c = simp (le-leb _ _ c.if-number-lt1.false, ne_eqb _ _ c.if-reserved-ne0.true)

pub returns-then-l-piece : goal.returns-then-l-piece
unfolding fields_fit
returns-then-l-piece c =
    let high : pieces_for c.args.l ≤ c.args.piece = omega arith in
    simp (le-leb _ _ c.if-number-lt1.false, eq-eqb _ _ c.if-reserved-ne0.false, le-ltb _ _ high)

pub returns-then-kind-gt1 : goal.returns-then-kind-gt1
unfolding fields_fit
returns-then-kind-gt1 c =
    let low : c.args.piece < pieces_for c.args.l = omega arith in
    simp (le-leb _ _ c.if-number-lt1.false, eq-eqb _ _ c.if-reserved-ne0.false, lt-ltb _ _ low, lt-leb _ _ c.if-kind-gt1.true)

pub returns-then-count-gt-BRANCHES : goal.returns-then-count-gt-BRANCHES
unfolding fields_fit
returns-then-count-gt-BRANCHES c =
    let low : c.args.piece < pieces_for c.args.l = omega arith in
    simp (le-leb _ _ c.if-number-lt1.false, eq-eqb _ _ c.if-reserved-ne0.false, lt-ltb _ _ low, le-leb _ _ c.if-kind-gt1.false, lt-leb _ _ c.if-count-gt-BRANCHES.true)

pub returns : goal.returns
unfolding fields_fit
returns c =
    let low : c.args.piece < pieces_for c.args.l = omega arith in
    simp (le-leb _ _ c.if-number-lt1.false, eq-eqb _ _ c.if-reserved-ne0.false, lt-ltb _ _ low, le-leb _ _ c.if-kind-gt1.false, le-leb _ _ c.if-count-gt-BRANCHES.false)
