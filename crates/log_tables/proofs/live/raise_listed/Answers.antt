-- Each way out, by what the sector's number says.
use Rattle.layout.specs.Bounded.{at}
use native.Mathlib.Omega.{arith}
use Rattle.log_tables.proofs.LiveLaws.{raised_not, raised_so}
use Rattle.log_tables.proofs.live.raise_listed.Goals as goal

pub returns-then-c-number : goal.returns-then-c-number
returns-then-c-number c =
    raised_not c.args.c (at c.args.sectors.now c.args.i) (at c.args.numbered.now c.args.i) (at c.args.pieces.now c.args.i) c.args.places.now c.args.numbers.now c.if-c-number.true

pub overflow_cast-sectors : goal.overflow_cast-sectors
overflow_cast-sectors c =
    let b = (c.type_inv.sectors c.args.i).fits in
    omega arith

pub returns : goal.returns
returns c =
    raised_so c.args.c (at c.args.sectors.now c.args.i) (at c.args.numbered.now c.args.i) (at c.args.pieces.now c.args.i) c.args.places.now c.args.numbers.now c.if-c-number.false _ _ c.raise.ensures.0 c.raise.ensures.1
