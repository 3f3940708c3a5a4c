-- One store at most: it is made where it is due and allowed.
use Rattle.clear.proofs.ClearLaws.{park_done, park_fails, park_clears}
use Rattle.clear.proofs.clear_park.Goals as goal

pub returns-then-done : goal.returns-then-done
returns-then-done c = park_done _ _ _ c.if-done.true

pub returns-in_err-left : goal.returns-in_err-left
returns-in_err-left c =
    park_fails _ _ _ _ c.if-done.false c.in_err-left.ensures c.from_residual.ensures

pub returns : goal.returns
returns c =
    park_clears _ _ _ _ _ c.if-done.false c.in_ok-left.ensures c.blank_sector.ensures
