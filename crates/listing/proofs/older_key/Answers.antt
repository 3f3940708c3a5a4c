-- The answer is the key, by the tests that decided it.
use Rattle.listing.proofs.ListLaws.{key_touched, key_older, key_newer}
use Rattle.listing.proofs.older_key.Goals.{else-touched-q-ne1-via-then-touched-q-ne1+else-number-bound, else-touched-q-ne1-via-else-touched-q-ne1}
use Rattle.listing.proofs.older_key.Goals as goal

pub returns-then-number-bound : goal.returns-then-number-bound
returns-then-number-bound c =
    key_older c.args.numbers.now c.args.touched.now c.args.bound c.args.q c.requires.q_in_bounds c.if-touched-q-ne1.true c.if-number-bound.true

pub returns-else-touched-q-ne1 : goal.returns-else-touched-q-ne1
returns-else-touched-q-ne1 c =
    elim c.else-touched-q-ne1.branch [
      | else-touched-q-ne1-via-then-touched-q-ne1+else-number-bound w ↦ key_newer _ c.args.touched.now _ c.args.q c.requires.q_in_bounds w.if-touched-q-ne1.true w.if-number-bound.false
      | else-touched-q-ne1-via-else-touched-q-ne1 w ↦ key_touched _ c.args.touched.now _ c.args.q c.requires.q_in_bounds w.if-touched-q-ne1.false
    ]
