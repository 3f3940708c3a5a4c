-- A byte is at most 255.
use Rattle.blocks.proofs.Blocks.{complement_set}
use Rattle.blocks.proofs.complement.Goals as goal

pub returns : goal.returns
returns c = complement_set c.args.s.now
