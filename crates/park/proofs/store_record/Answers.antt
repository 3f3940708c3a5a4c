-- One store: it is made where it is allowed.
use Rattle.park.proofs.ParkLaws.{store_fails, store_made}
use Rattle.park.proofs.store_record.Goals as goal

pub returns-in_err-left : goal.returns-in_err-left
returns-in_err-left c =
    store_fails _ _ _ _ _ c.in_err-left.ensures c.from_residual.ensures

pub returns : goal.returns
returns c =
    store_made _ _ _ _ _ _ c.in_ok-left.ensures c.store_park.ensures
