-- The copy stands in front of zeros.
use lib.ListN.{length}
use Rattle.plan.proofs.PlanLaws.{copied}
use Rattle.plan.proofs.copy_used.Goals as goal

pub returns : goal.returns
returns c = copied c.args.used.now _ c.args.marks.now (length c.args.marks.now) c.requires.marks_value c.copy_from_slice.ensures.after
