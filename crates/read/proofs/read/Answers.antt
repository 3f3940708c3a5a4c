-- A refused read hands everything back; an accepted one leaves the block of the definition.
use mathlib.Core.Path.{sym, ◌∙◌}
use Rattle.read.proofs.ReadLaws.{read_refused, read_done}
use Rattle.read.proofs.read.Goals as goal

pub fill-requires : goal.fill-requires
fill-requires c =
    sym c.in-Ok.is ∙ c.read_verdict-verdict.ensures

pub returns-in-Err : goal.returns-in-Err
returns-in-Err c =
    read_refused _ _ _ _ _ _ _ _ _ (sym c.in-Err.is ∙ c.read_verdict-verdict.ensures)

pub returns-in-Ok : goal.returns-in-Ok
returns-in-Ok c =
    read_done _ _ _ _ _ _ _ _ _ _ c.accepted.ensures (sym c.in-Ok.is ∙ c.read_verdict-verdict.ensures) c.fill.ensures
