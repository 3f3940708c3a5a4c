-- Both stores are made where the number is higher, and neither where it is not.
use mathlib.Core.Path.{sym}
use lib.Dec.{ltb}
use borrow.Author.Tests.{lt-ltb, le-ltb}
use Rattle.layout.specs.Bounded.{at}
use lib.ListN.{set}
use Rattle.laws.proofs.Bounded.{cond_true, cond_false}
use Rattle.log_tables.proofs.live.raise.Goals as goal

pub returns-then-number-numbers : goal.returns-then-number-numbers
returns-then-number-numbers c =
    let t = le-ltb (at c.args.numbers.now c.args.q) c.args.number c.if-number-numbers.true in (
      sym (cond_false (ltb (at c.args.numbers.now c.args.q) c.args.number) (set c.args.places.now c.args.q c.args.k) c.args.places.now t),
      sym (cond_false (ltb (at c.args.numbers.now c.args.q) c.args.number) (set c.args.numbers.now c.args.q c.args.number) c.args.numbers.now t),
    )

pub returns : goal.returns
returns c =
    let t = lt-ltb (at c.args.numbers.now c.args.q) c.args.number c.if-number-numbers.false in (
      sym (cond_true (ltb (at c.args.numbers.now c.args.q) c.args.number) (set c.args.places.now c.args.q c.args.k) c.args.places.now t),
      sym (cond_true (ltb (at c.args.numbers.now c.args.q) c.args.number) (set c.args.numbers.now c.args.q c.args.number) c.args.numbers.now t),
    )
