-- Each return, by a law of Numbering.
use native.Mathlib.Omega.{arith}
use lib.ListN.{length}
use Rattle.layout.specs.Bounded.{at}
use Rattle.laws.proofs.Bounded.{best_below}
use Rattle.numbers.proofs.Numbering.{agree_apart, agree_from1, agree_tail, agree_number}
use mathlib.Core.Path.{ap}
use mathlib.Core.Bool.{not}
use Rattle.numbers.proofs.numbers_agree.Goals as goal

pub returns-then-not-all_distinct : goal.returns-then-not-all_distinct
returns-then-not-all_distinct c =
    agree_apart (at c.args.places.now) (at c.args.numbers.now) (length c.args.numbers.now) c.args.tail c.args.number
    c.all_distinct.result c.all_distinct.ensures (ap not c.if-not-all_distinct.true)

pub returns-then-not-all_from_1 : goal.returns-then-not-all_from_1
returns-then-not-all_from_1 c =
    agree_from1 (at c.args.places.now) (at c.args.numbers.now) (length c.args.numbers.now) c.args.tail c.args.number
    c.all_distinct.result c.all_distinct.ensures (ap not c.if-not-all_distinct.false) c.all_from_1.result c.all_from_1.ensures (ap not c.if-not-all_from_1.true)

pub offset_bounds-places-q : goal.offset_bounds-places-q
offset_bounds-places-q c =
    let h = best_below (at c.args.numbers.now) (length c.args.numbers.now) c.requires.numbers_nonzero in
    omega arith

pub bounds-places-q : goal.bounds-places-q
bounds-places-q c =
    let h = best_below (at c.args.numbers.now) (length c.args.numbers.now) c.requires.numbers_nonzero in
    omega arith

pub returns-then-tail-places : goal.returns-then-tail-places
returns-then-tail-places c =
    agree_tail (at c.args.places.now) (at c.args.numbers.now) (length c.args.numbers.now) c.args.tail c.args.number
    c.all_distinct.result c.all_distinct.ensures (ap not c.if-not-all_distinct.false) c.all_from_1.result c.all_from_1.ensures (ap not c.if-not-all_from_1.false) c.newest-q.result c.newest-q.ensures c.if-tail-places.true

pub offset_bounds-numbers-q : goal.offset_bounds-numbers-q
offset_bounds-numbers-q c =
    let h = best_below (at c.args.numbers.now) (length c.args.numbers.now) c.requires.numbers_nonzero in
    omega arith

pub bounds-numbers-q : goal.bounds-numbers-q
bounds-numbers-q c =
    let h = best_below (at c.args.numbers.now) (length c.args.numbers.now) c.requires.numbers_nonzero in
    omega arith

pub returns : goal.returns
returns c =
    agree_number (at c.args.places.now) (at c.args.numbers.now) (length c.args.numbers.now) c.args.tail c.args.number
    c.all_distinct.result c.all_distinct.ensures (ap not c.if-not-all_distinct.false) c.all_from_1.result c.all_from_1.ensures (ap not c.if-not-all_from_1.false) c.newest-q.result c.newest-q.ensures c.if-tail-places.false
