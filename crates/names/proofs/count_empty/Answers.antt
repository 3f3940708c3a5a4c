-- The entries that are empty are counted.
use Rattle.std.proofs.Common.{rules}
use Rattle.layout.specs.Entry.{is_empty}
use Rattle.names.proofs.count_empty.Goals as goal

pub returns : goal.returns
returns c = (c.count_passing.ensures.counted is_empty (λ e b h p. search rules), c.count_passing.ensures.few)
