-- The type of a slice says it.
use Rattle.batch.proofs.entries_fit.Goals as goal

pub returns : goal.returns
returns c b = (c.type_inv.map b).fits
