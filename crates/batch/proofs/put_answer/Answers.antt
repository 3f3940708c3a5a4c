-- Five stores, one after the other.
use mathlib.Core.Path.{refl, ◌∙◌}
use native.Mathlib.Omega.{arith}
use lib.ListN.{length-set}
use Rattle.batch.proofs.Commits.{put_five}
use Rattle.batch.proofs.put_answer.Goals as goal

pub bounds-answers-at-2 : goal.bounds-answers-at-2
bounds-answers-at-2 c = simp length-set (omega arith)

pub bounds-answers-at-3 : goal.bounds-answers-at-3
bounds-answers-at-3 c = simp length-set (omega arith)

pub bounds-answers-at-4 : goal.bounds-answers-at-4
bounds-answers-at-4 c = simp length-set (omega arith)

pub bounds-answers-at-5 : goal.bounds-answers-at-5
bounds-answers-at-5 c = simp length-set (omega arith)

pub returns : goal.returns
returns c =
    put_five c.args.answers.now c.args.i _ _ _ _ _ c.requires
    ∙ rw (c.number.ensures, c.stores.ensures, c.skipped.ensures) refl
