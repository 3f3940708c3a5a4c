-- The first three tests return, and the last is the result.
use Rattle.targets.proofs.TargetLaws.{piece_left, late_left, done_left, newer_waits}
use Rattle.targets.proofs.may_wait.Goals as goal

pub returns-then-taken-p : goal.returns-then-taken-p
returns-then-taken-p c =
    piece_left c.args.tree.now c.args.taken.now c.args.holder c.args.number c.args.p c.if-taken-p.true

pub returns-then-holder-number : goal.returns-then-holder-number
returns-then-holder-number c =
    late_left c.args.tree.now c.args.taken.now c.args.holder c.args.number c.args.p c.if-taken-p.false c.if-holder-number.true

pub returns-then-taken-p-ne0 : goal.returns-then-taken-p-ne0
returns-then-taken-p-ne0 c =
    done_left c.args.tree.now c.args.taken.now c.args.holder c.args.number c.args.p c.if-taken-p.false c.if-holder-number.false c.if-taken-p-ne0.true

pub returns : goal.returns
returns c =
    newer_waits c.args.tree.now c.args.taken.now c.args.holder c.args.number c.args.p c.if-taken-p.false c.if-holder-number.false c.if-taken-p-ne0.false c.key_of.result c.key_of.ensures
