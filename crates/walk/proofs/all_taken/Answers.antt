-- A piece that is not done decides.
use Rattle.walk.proofs.WalkedLaws.{taken_all}
use Rattle.walk.proofs.all_taken.Goals as goal

pub returns : goal.returns
returns c = taken_all c.args.taken.now c.contains.result c.contains.ensures.cases
